pub mod WorkFolderLaws
