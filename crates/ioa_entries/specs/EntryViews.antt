-- Slots and transitions without where they lie in memory.
use Rattle.std.specs.Prelude.{Option, Some, None, map, string_bytes}
use Rattle.ioa_entries.specs.declared.slots.Slot.{Slot}
use Rattle.ioa_entries.specs.declared.slots.Slot.TheVariants as v
use Rattle.ioa_entries.specs.declared.transitions.Meant.{Meant}
use Rattle.ioa_entries.specs.EffectViews.{done_tree}
use Rattle.ioa_typing.specs.KindViews.{kind_tree}
use Rattle.ioa_trees.specs.EntryRules as plain
use Rattle.ioa_trees.specs.EntryRules.{Fixed, Free}
use Rattle.ioa_typing.specs.TermViews.{core_tree}

abbrev pub slot_tree : Option Slot → Option plain.Slot
slot_tree None = None
slot_tree (Some (v.Fixed n)) = Some (Fixed n)
slot_tree (Some (v.Free k)) = Some (Free (kind_tree k))

abbrev pub meant_tree : Meant → plain.Meant
meant_tree m = record { kind = m.kind; name = string_bytes m.name; parameters = map slot_tree m.parameters.items; pre = core_tree m.pre; effect = done_tree m.effect }
