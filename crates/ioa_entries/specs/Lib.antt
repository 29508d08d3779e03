pub mod Between
pub mod EffectLists
pub mod EffectViews
pub mod EntryParts
pub mod EntryViews
pub mod StatementParts
pub mod TaskNames
