-- The commands and the table of options: what each is called, which commands have it, what it takes,
-- and whether it may repeat.
use Rattle.std.specs.Prelude.{◌&&◌, ℕ, Bool, true, false, List, [], ◌∷◌, Option, codes, bytes_eq, find}
use Rattle.vk_words.specs.declared.options.Subcommand.{Subcommand}
use Rattle.vk_words.specs.declared.options.Subcommand.TheVariants as command
use Rattle.vk_words.specs.declared.options.OptionName.{OptionName}
use Rattle.vk_words.specs.declared.options.OptionName.TheVariants as option
use Rattle.vk_words.specs.declared.options.Scope.{Scope}
use Rattle.vk_words.specs.declared.options.Scope.TheVariants as scope
use Rattle.vk_words.specs.declared.options.Takes.{Takes}
use Rattle.vk_words.specs.declared.options.Takes.TheVariants as takes
use Rattle.vk_words.specs.declared.options.Rule.{Rule}

-- the word that says a command
abbrev pub command_name : Subcommand → List ℕ
command_name command.Plan = codes "plan"
command_name command.Abi = codes "abi"
command_name command.Install = codes "install"
command_name command.Check = codes "check"
command_name command.SelfLoad = codes "self-load"

abbrev pub commands : List Subcommand
commands = command.Plan ∷ command.Abi ∷ command.Install ∷ command.Check ∷ command.SelfLoad ∷ []

-- the command of this name
abbrev pub command_named : List ℕ → Option Subcommand
command_named name = find (λ c. bytes_eq (command_name c) name) commands

-- the commands of a scope: those that read a project, those that build, or one alone
abbrev pub has : Scope → Subcommand → Bool
has scope.Projects command.SelfLoad = false
has scope.Projects other = true
has scope.Builds command.Abi = true
has scope.Builds command.Install = true
has scope.Builds other = false
has scope.Abi command.Abi = true
has scope.Abi other = false
has scope.Install command.Install = true
has scope.Install other = false
has scope.Check command.Check = true
has scope.Check other = false
has scope.SelfLoad command.SelfLoad = true
has scope.SelfLoad other = false

-- an option that stands once at most, and one that may repeat
abbrev pub once : Scope → Takes → Rule
once scope takes = record { scope = scope; takes = takes; repeats = false }

abbrev pub many : Scope → Takes → Rule
many scope takes = record { scope = scope; takes = takes; repeats = true }

-- the table
abbrev pub option_name : OptionName → List ℕ
option_name option.Triplet = codes "--triplet"
option_name option.HostTriplet = codes "--host-triplet"
option_name option.Project = codes "--project"
option_name option.Feature = codes "--feature"
option_name option.NoDefaultFeatures = codes "--no-default-features"
option_name option.OverlayPorts = codes "--overlay-ports"
option_name option.OverlayTriplets = codes "--overlay-triplets"
option_name option.MaxFacts = codes "--max-facts"
option_name option.MaxBytes = codes "--max-bytes"
option_name option.Builder = codes "--builder"
option_name option.Port = codes "--port"
option_name option.PortTriplet = codes "--port-triplet"
option_name option.Installed = codes "--installed"
option_name option.Cache = codes "--cache"
option_name option.Agent = codes "--agent"
option_name option.Report = codes "--report"
option_name option.Size = codes "--size"

abbrev pub rule_of : OptionName → Rule
rule_of option.Triplet = once scope.Projects takes.Triplet
rule_of option.HostTriplet = once scope.Projects takes.Triplet
rule_of option.Project = once scope.Projects takes.Path
rule_of option.Feature = many scope.Projects takes.Feature
rule_of option.NoDefaultFeatures = once scope.Projects takes.Nothing
rule_of option.OverlayPorts = many scope.Projects takes.Path
rule_of option.OverlayTriplets = many scope.Projects takes.Path
rule_of option.MaxFacts = once scope.Projects (takes.Number 2000000)
rule_of option.MaxBytes = once scope.Builds (takes.Number 536870912)
rule_of option.Builder = once scope.Builds takes.Builder
rule_of option.Port = once scope.Abi takes.Port
rule_of option.PortTriplet = once scope.Abi takes.Triplet
rule_of option.Installed = once scope.Install takes.Path
rule_of option.Cache = once scope.Install takes.Path
rule_of option.Agent = once scope.Install takes.Agent
rule_of option.Report = once scope.Check takes.Path
rule_of option.Size = once scope.SelfLoad (takes.Number 2000)

abbrev pub options : List OptionName
options =
    option.Triplet ∷ option.HostTriplet ∷ option.Project ∷ option.Feature
    ∷ option.NoDefaultFeatures ∷ option.OverlayPorts ∷ option.OverlayTriplets ∷ option.MaxFacts
    ∷ option.MaxBytes ∷ option.Builder ∷ option.Port ∷ option.PortTriplet ∷ option.Installed
    ∷ option.Cache ∷ option.Agent ∷ option.Report ∷ option.Size ∷ []

-- whether a command has this option, under this name
abbrev pub is_named : Subcommand → List ℕ → OptionName → Bool
is_named command name option = has (rule_of option).scope command && bytes_eq (option_name option) name

-- the option of a command that has this name
abbrev pub option_named : Subcommand → List ℕ → Option OptionName
option_named command name = find (is_named command name) options
