mod Told
mod Determined
mod Complete
mod Taken
mod Heard
mod OneBook
mod BooksNotLacking
