pub mod GoodTwo
pub mod StepsTwo
pub mod ReadingTwo
pub mod WritingTwo
pub mod RoundTripTwo
