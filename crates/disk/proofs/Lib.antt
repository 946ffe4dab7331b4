mod FileChanges
mod Leaving
mod Lookups
mod Named
mod Renaming
