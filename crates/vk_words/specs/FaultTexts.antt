-- How a fault of the words is printed.
use Rattle.std.specs.Prelude.{◌++◌, ℕ, List, codes}
use Rattle.std.specs.Fmt.{decimal}
use Rattle.vk_words.specs.declared.faults.Opt.{Opt}
use Rattle.vk_words.specs.declared.faults.Opt.TheVariants as required
use Rattle.vk_words.specs.declared.faults.WordFault.{WordFault}
use Rattle.vk_words.specs.declared.faults.WordFault.TheVariants as fault

-- an option that a command can't be without, as it is written
abbrev pub required_name : Opt → List ℕ
required_name required.Triplet = codes "--triplet"
required_name required.Port = codes "--port"
required_name required.Cache = codes "--cache"
required_name required.Report = codes "--report"
required_name required.Size = codes "--size"

-- a fault of a word, and the word's number
abbrev pub numbered : List ℕ → ℕ → List ℕ
numbered name n = name ++ codes " " ++ decimal n

-- the fault, and which word or which option has it
abbrev pub fault_text_of : WordFault → List ℕ
fault_text_of fault.NoCommand = codes "no-command"
fault_text_of (fault.Unknown n) = numbered (codes "unknown") n
fault_text_of (fault.NoValue n) = numbered (codes "no-value") n
fault_text_of (fault.Twice n) = numbered (codes "twice") n
fault_text_of (fault.BadValue n) = numbered (codes "bad-value") n
fault_text_of (fault.Lacks option) = codes "lacks " ++ required_name option
