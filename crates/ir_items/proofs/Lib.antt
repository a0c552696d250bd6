mod Cuts
mod PhraseLaws
mod Phrasing
mod SegmentLaws
