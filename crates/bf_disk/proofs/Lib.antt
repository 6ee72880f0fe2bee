mod OpenedFiles
mod FoundFiles
