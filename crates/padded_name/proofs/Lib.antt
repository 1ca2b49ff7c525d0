pub mod PaddedNames
