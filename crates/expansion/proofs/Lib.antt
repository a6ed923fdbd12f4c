mod DigitParts
mod SetGoods
mod SetParts
mod Lengths
mod WholeLists
mod OneList
mod CheckedLists
