mod Lanes
mod Looking
