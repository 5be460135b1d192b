pub mod Entries
pub mod Dues
pub mod Insertions
pub mod Places
pub mod Digits
pub mod Firsts
pub mod Gaps
pub mod Revisions
