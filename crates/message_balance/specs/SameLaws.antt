-- The equality of done entries is symmetric and transitive.
use Rattle.std.specs.Prelude.{◌≡◌, true, refl}
use Rattle.std.specs.Cmp.{IsPartialEquivalence}
use Rattle.event_keys.specs.contracts.message.SignedPartialEq.TheImpl.Laws.{laws-law as signed_laws}
use Rattle.event_keys.specs.contracts.outcome.TurnedPartialEq.TheImpl.Laws.{laws-law as turned_laws}
use Rattle.message_balance.specs.declared.done.Done.{Done}
use Rattle.message_balance.specs.declared.done.Done.TheVariants.{Turn, Input}
use Rattle.message_balance.specs.Same.{same_done}

done_symm : (d e : Done) → same_done d e ≡ same_done e d
done_symm (Turn t minuses) (Turn u others) = turned_laws.symm t u
done_symm (Turn t minuses) (Input y) = refl
done_symm (Input x) (Turn u others) = refl
done_symm (Input x) (Input y) = signed_laws.symm x y

done_trans : (d e f : Done) → same_done d e ≡ true → same_done e f ≡ true → same_done d f ≡ true
done_trans (Turn t minuses) (Turn u others) (Turn v rest) h k = turned_laws.trans t u v h k
done_trans (Turn t minuses) (Turn u others) (Input z) h k = k
done_trans (Turn t minuses) (Input y) f h k = cc
done_trans (Input x) (Turn u others) f h k = cc
done_trans (Input x) (Input y) (Turn v rest) h k = k
done_trans (Input x) (Input y) (Input z) h k = signed_laws.trans x y z h k

pub same_done_per : IsPartialEquivalence same_done
same_done_per = record { symm = done_symm; trans = done_trans }
