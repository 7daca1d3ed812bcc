pub mod GapLaws
pub mod WindowTurns
pub mod AcceptedMoves
pub mod MoveTurns
pub mod CountTurns
pub mod Told
