use Rattle.vk_resolution.proofs.ProjectLemmas.{cross_build, host_platform, own_host_tool, own_host_tool_needs}
use Rattle.vk_resolution.proofs.projects.host_instances.Goals as goal

pub returns-clause-cross : goal.returns-clause-cross
returns-clause-cross c = cross_build

pub returns-clause-platform : goal.returns-clause-platform
returns-clause-platform c = host_platform

pub returns-clause-own : goal.returns-clause-own
returns-clause-own c = own_host_tool

pub returns-clause-needs : goal.returns-clause-needs
returns-clause-needs c = own_host_tool_needs
