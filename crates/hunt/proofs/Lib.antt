mod Names
mod Parts
mod Sowing
mod Turning
