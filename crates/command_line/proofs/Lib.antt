mod Telling
mod Numbers
mod Locals
mod Ranges
mod Lacking
mod Grown
