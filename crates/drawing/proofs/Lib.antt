mod Joined
mod Windows
