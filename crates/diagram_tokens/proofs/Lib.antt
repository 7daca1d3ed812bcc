mod BranchTurns
mod Cleared
mod KilledRows
