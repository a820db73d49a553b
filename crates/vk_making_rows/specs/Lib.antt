pub mod QuietTrees
