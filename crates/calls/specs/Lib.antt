-- Calls on lent bytes that are a sound book: what each call's steps may count on.
pub mod Holdings
pub mod Entries
pub mod Runs
