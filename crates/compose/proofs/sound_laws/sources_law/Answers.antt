use Rattle.compose.proofs.SoundAutomata.{source_sound}
use Rattle.compose.proofs.sound_laws.sources_law.Goals as goal

pub returns : goal.returns
returns c = record { sound = λ x h. source_sound x h (c.sources_meant_law.ensures.meant x h) }
