mod FrameOptions
mod Rebuilt
mod Written
