pub mod Creation
pub mod KeyTaken
pub mod RoomFound
pub mod Wanted
