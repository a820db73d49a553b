-- The marks of a triplet: by the last values of four variables.
use Rattle.std.specs.Prelude.{◌≡◌, ◌||◌, ◌==◌, ◌++◌, ℕ, Bool, true, false, List, [], ◌∷◌, length}
use Rattle.std.specs.Prelude.{codes, if◌then◌else◌}
use Rattle.std.specs.List.{flat_map}
use Rattle.std.specs.Str.{bytes_eq}
use Rattle.vk_triplet.specs.declared.triplets.Variable.{Variable}
use Rattle.vk_triplet.specs.TripletReadings.{value_of}

-- where the variable has the value, these marks hold
pub record Row : Type 0 where
  pub variable : List ℕ
  pub value : List ℕ
  pub marks : List (List ℕ)

-- the variable of the architecture
abbrev pub architecture : List ℕ
architecture = codes "VCPKG_TARGET_ARCHITECTURE"

-- the variable of the system's name
abbrev pub system : List ℕ
system = codes "VCPKG_CMAKE_SYSTEM_NAME"

-- a row of these
abbrev pub row : List ℕ → List ℕ → List (List ℕ) → Row
row variable value marks = record { variable = variable; value = value; marks = marks }

-- the table of marks
abbrev pub table : List Row
table =
    row architecture (codes "arm") (codes "arm32" ∷ [])
    ∷ row architecture (codes "arm64") (codes "arm" ∷ [])
    ∷ row architecture (codes "arm64ec") (codes "arm" ∷ [])
    ∷ row system [] (codes "windows" ∷ [])
    ∷ row system (codes "WindowsStore") (codes "windows" ∷ codes "uwp" ∷ [])
    ∷ row system (codes "MinGW") (codes "windows" ∷ codes "mingw" ∷ [])
    ∷ row system (codes "Linux") (codes "linux" ∷ [])
    ∷ row system (codes "Darwin") (codes "osx" ∷ [])
    ∷ row system (codes "iOS") (codes "ios" ∷ [])
    ∷ row system (codes "Android") (codes "android" ∷ [])
    ∷ row system (codes "Emscripten") (codes "emscripten" ∷ [])
    ∷ row system (codes "FreeBSD") (codes "freebsd" ∷ [])
    ∷ row system (codes "OpenBSD") (codes "openbsd" ∷ [])
    ∷ row (codes "VCPKG_LIBRARY_LINKAGE") (codes "static") (codes "static" ∷ [])
    ∷ row (codes "VCPKG_CRT_LINKAGE") (codes "static") (codes "staticcrt" ∷ [])
    ∷ []

-- the marks of a row, where its variable has its value
abbrev pub marks_by : List Variable → Row → List (List ℕ)
marks_by variables r = if bytes_eq (value_of r.variable variables) r.value then r.marks else []

-- an architecture is a mark itself, unless it is empty or `native`
abbrev pub own_mark : List ℕ → List (List ℕ)
own_mark value = if length value == 0 || bytes_eq value (codes "native") then [] else value ∷ []

-- `native`, where the triplet is the host triplet
abbrev pub native_mark : Bool → List (List ℕ)
native_mark native = if native then codes "native" ∷ [] else []

-- the marks of a triplet: the architecture, those of the table in its order, and `native` last
abbrev pub marks_of : List Variable → Bool → List (List ℕ)
marks_of variables native = own_mark (value_of architecture variables) ++ (flat_map (marks_by variables) table ++ native_mark native)

-- the marks of a triplet that sets these, where it isn't the host triplet, and where it is
pub record AreMarks (variables : List Variable) (other native : List (List ℕ)) : Type 0 where
  pub elsewhere : other ≡ marks_of variables false
  pub here : native ≡ marks_of variables true
