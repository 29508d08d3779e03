pub mod FaultNumbers
pub mod KindViews
pub mod NameViews
pub mod Noted
pub mod TermViews
