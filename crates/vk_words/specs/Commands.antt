-- What the words of a command line ask for.
use Rattle.std.specs.Prelude.{◌++◌, ℕ, not, List, [], ◌∷◌, Option, Result, Ok, Err, codes, unwrap_or, option_and_then}
use Rattle.vk_spec.specs.Paths.{Path}
use Rattle.vk_spec.specs.Reading.{◌>>=◌, or_fault}
use Rattle.vk_model.specs.Builders.{recorded}
use Rattle.vk_model.specs.declared.builders.Builder.{Builder}
use Rattle.vk_model.specs.declared.projects.Project.{Project}
use Rattle.vk_model.specs.declared.projects.Store.{Store}
use Rattle.vk_words.specs.Words.{Words}
use Rattle.vk_words.specs.Options.{command_named}
use Rattle.vk_words.specs.Arguments.{is_given, triplet_given, path_given, number_given, port_given}
use Rattle.vk_words.specs.Arguments.{agent_given, builder_given, paths_given, features_given, arguments_in}
use Rattle.vk_words.specs.declared.options.Subcommand.{Subcommand}
use Rattle.vk_words.specs.declared.options.Subcommand.TheVariants as command
use Rattle.vk_words.specs.declared.options.OptionName.TheVariants as option
use Rattle.vk_words.specs.declared.arguments.Argument.{Argument}
use Rattle.vk_words.specs.declared.commands.Command.{Command}
use Rattle.vk_words.specs.declared.commands.Command.TheVariants as the
use Rattle.vk_words.specs.declared.faults.Opt.TheVariants as required
use Rattle.vk_words.specs.declared.faults.WordFault.{WordFault}
use Rattle.vk_words.specs.declared.faults.WordFault.TheVariants as fault

-- ---- what the arguments come to

-- how many bytes a port's folder, and all packages together, may have
abbrev pub max_bytes_in : List Argument → ℕ
max_bytes_in arguments = unwrap_or (number_given option.MaxBytes arguments) 536870912

-- the project's folder: the working folder, unless another is named
abbrev pub folder_in : List Argument → Path
folder_in arguments = unwrap_or (path_given option.Project arguments) (codes "." ∷ [])

-- the host: the target, unless another is named
abbrev pub host_in : List ℕ → List Argument → List ℕ
host_in target arguments = unwrap_or (triplet_given option.HostTriplet arguments) target

abbrev pub builder_in : List Argument → Builder
builder_in arguments = unwrap_or (builder_given arguments) recorded

-- the project for a target
abbrev pub project_for : List ℕ → List Argument → Project
project_for target arguments = record {
  folder = folder_in arguments;
  target = target;
  host = host_in target arguments;
  features = features_given arguments;
  defaults = not (is_given option.NoDefaultFeatures arguments);
  overlay_ports = paths_given option.OverlayPorts arguments;
  overlay_triplets = paths_given option.OverlayTriplets arguments;
  max_facts = unwrap_or (number_given option.MaxFacts arguments) 1000000;
  max_bytes = max_bytes_in arguments;
  builder = builder_in arguments;
}

-- the project, which needs a target
unfoldable pub project_in : List Argument → Result Project WordFault
project_in arguments = do
  target ← or_fault (fault.Lacks required.Triplet) (triplet_given option.Triplet arguments)
  Ok (project_for target arguments)

-- the folder that is installed into: one in the project's folder, unless another is named
abbrev pub installed_in : Path → List Argument → Path
installed_in folder arguments =
    unwrap_or (path_given option.Installed arguments) (folder ++ codes "vcpkg_installed" ∷ [])

-- where the packages of the project in a folder are installed, and kept in this cache
abbrev pub store_for : Path → Path → List Argument → Store
store_for folder cache arguments = record {
  installed = installed_in folder arguments;
  cache = cache;
  agent = unwrap_or (agent_given arguments) (codes "agent");
  max_bytes = max_bytes_in arguments;
}

unfoldable pub plan_in : List Argument → Result Command WordFault
plan_in arguments = do
  project ← project_in arguments
  Ok (the.Plan project)

unfoldable pub abi_in : List Argument → Result Command WordFault
abi_in arguments = do
  project ← project_in arguments
  port ← or_fault (fault.Lacks required.Port) (port_given arguments)
  Ok (the.Abi project port (triplet_given option.PortTriplet arguments))

unfoldable pub install_in : List Argument → Result Command WordFault
install_in arguments = do
  project ← project_in arguments
  cache ← or_fault (fault.Lacks required.Cache) (path_given option.Cache arguments)
  Ok (the.Install project (store_for project.folder cache arguments))

unfoldable pub check_in : List Argument → Result Command WordFault
check_in arguments = do
  project ← project_in arguments
  report ← or_fault (fault.Lacks required.Report) (path_given option.Report arguments)
  Ok (the.Check project report)

unfoldable pub load_in : List Argument → Result Command WordFault
load_in arguments = do
  size ← or_fault (fault.Lacks required.Size) (number_given option.Size arguments)
  Ok (the.SelfLoad size)

abbrev pub command_from : Subcommand → List Argument → Result Command WordFault
command_from command.Plan arguments = plan_in arguments
command_from command.Abi arguments = abi_in arguments
command_from command.Install arguments = install_in arguments
command_from command.Check arguments = check_in arguments
command_from command.SelfLoad arguments = load_in arguments

-- ---- the whole command line

-- a command, and then options
unfoldable pub command_line : Option (List ℕ) → Words → Result Command WordFault
command_line first rest = do
  command ← or_fault (fault.Unknown 1) (option_and_then command_named first)
  arguments ← arguments_in command rest
  command_from command arguments

abbrev pub reads_words : Words → Result Command WordFault
reads_words [] = Err fault.NoCommand
reads_words (first ∷ rest) = command_line first rest
