mod Sizes
mod Dealt
mod Numbers
