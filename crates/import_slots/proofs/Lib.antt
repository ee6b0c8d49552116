mod Finding
mod SlotFacts
