mod Growth
mod Parting
mod Reaching
mod Rising
mod Searches
mod Settledness
mod Whole
