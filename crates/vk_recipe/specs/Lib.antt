-- what is promised
pub mod PackagePaths
pub mod Recipes
pub mod RecipeReading
pub mod Builds
pub mod BuildLaws
-- what functions, laws and examples say besides
pub mod RecipeViews
pub mod JobViews
pub mod Destinations
