-- What a listing is: the definitions of the format, which know nothing of how a lister goes about it.
pub mod Bounds
pub mod Classes
pub mod Directory
pub mod Item
pub mod Kind
pub mod KindLaws
pub mod Laws
pub mod Listing
pub mod Name
pub mod Numbers
pub mod Ranges
pub mod Refusal
pub mod Shape
pub mod Summary
