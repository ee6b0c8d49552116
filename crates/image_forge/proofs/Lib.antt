mod Judging
mod Standing
