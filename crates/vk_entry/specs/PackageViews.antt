-- What contracts see of a package's file.
use Rattle.vk_entry.specs.Packages as plain
use Rattle.vk_entry.specs.declared.packages.PackageFile.{PackageFile}

abbrev pub file_view : PackageFile → plain.File
file_view file = record { path = file.path; bytes = file.bytes }
