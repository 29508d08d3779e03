-- There and back on a ring of two components, whose turns are at 4, 7 and so on.
use Rattle.std.specs.Prelude.{[], ◌∷◌}
use Rattle.virtual_time.specs.Replies.{Delivered, Met, Processed, RolledBack}
use Rattle.virtual_time.specs.Ring.{led, pass_2, pass_3, ring}
use Rattle.virtual_time.specs.Worlds.{DeliverAntimessage, DeliverMessage, Meet, Process, RollBack, start_world}
use Rattle.world.specs.SettingOut.{AreThereAndBack}
use Rattle.world.specs.ThereAndBack.{IsThereAndBack}

-- component 1 did two turns; the message of component 0's first turn is a straggler: the second of them is taken back and done again
abbrev pub StragglerIsUndone : Type 0
StragglerIsUndone =
    IsThereAndBack ring 2 0
    (led (start_world ring) (Process 1 ∷ Process 1 ∷ []))
    (Process 0 ∷ RollBack 0 ∷ DeliverMessage 1 pass_2 ∷ DeliverAntimessage 1 pass_2 ∷ Process 1 ∷ [])
    (Processed 4 ∷ RolledBack 4 ∷ Delivered 1 ∷ Delivered 0 ∷ Processed 7 ∷ [])
    (led (start_world ring) (Process 1 ∷ Process 1 ∷ Process 0 ∷ RollBack 0 ∷ DeliverMessage 1 pass_2 ∷ DeliverAntimessage 1 pass_2 ∷ Process 1 ∷ []))

-- an equal message was done: the antimessage that comes first takes that input back with the turn after it, which had sent a message of its
-- own; both are done again, and that message meets
abbrev pub EqualMessageIsDoneAgain : Type 0
EqualMessageIsDoneAgain =
    IsThereAndBack ring 2 0
    (led (start_world ring) (Process 0 ∷ RollBack 0 ∷ DeliverMessage 1 pass_2 ∷ Process 1 ∷ Process 1 ∷ Process 1 ∷ []))
    (Process 0 ∷ RollBack 0 ∷ DeliverAntimessage 1 pass_2 ∷ DeliverMessage 1 pass_2 ∷ Process 1 ∷ Process 1 ∷ Meet 0 pass_3 ∷ [])
    (Processed 4 ∷ RolledBack 4 ∷ Delivered 2 ∷ Delivered 0 ∷ Processed 4 ∷ Processed 7 ∷ Met ∷ [])
    (led (start_world ring) (Process 0 ∷ RollBack 0 ∷ DeliverMessage 1 pass_2 ∷ Process 1 ∷ Process 1 ∷ Process 1 ∷ Process 0 ∷ RollBack 0 ∷ DeliverAntimessage 1 pass_2 ∷ DeliverMessage 1 pass_2 ∷ Process 1 ∷ Process 1 ∷ Meet 0 pass_3 ∷ []))

-- the world before tells the steps of both
abbrev pub StepsAreTold : Type 0
StepsAreTold =
    AreThereAndBack ring 0
    (led (start_world ring) (Process 1 ∷ Process 1 ∷ []))
    (Process 0 ∷ RollBack 0 ∷ DeliverMessage 1 pass_2 ∷ DeliverAntimessage 1 pass_2 ∷ Process 1 ∷ [])
    × AreThereAndBack ring 0
    (led (start_world ring) (Process 0 ∷ RollBack 0 ∷ DeliverMessage 1 pass_2 ∷ Process 1 ∷ Process 1 ∷ Process 1 ∷ []))
    (Process 0 ∷ RollBack 0 ∷ DeliverAntimessage 1 pass_2 ∷ DeliverMessage 1 pass_2 ∷ Process 1 ∷ Process 1 ∷ Meet 0 pass_3 ∷ [])
