pub mod BranchWalks
