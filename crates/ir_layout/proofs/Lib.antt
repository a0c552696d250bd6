mod Layouts
mod Numbers
mod Walks
