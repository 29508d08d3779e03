use Rattle.std.proofs.Common.{◌≡◌, Option, None, Some}
use Rattle.std.specs.Prelude.{IfSome}
use Rattle.groups.specs.declared.window.Window.{Window}

-- both have the same window
has_window : (a b : Option Window) → a ≡ b → IfSome b (λ w. a ≡ Some w)
has_window a None is = tt
has_window a (Some w) is = is
