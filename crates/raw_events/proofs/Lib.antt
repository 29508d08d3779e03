-- Some of these proofs cite inner modules of the kit, of its own doubly linked list and of its boxes (`std_collections.proofs`, `std_alloc.proofs`, `core.proofs`). A new kit may rename them.
pub mod Crosses
pub mod Ends
pub mod Firsts
pub mod Marks
pub mod Rests
pub mod Seen
pub mod Steps
