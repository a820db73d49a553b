use Rattle.vk_entry.proofs.LineForms.{other_path}
use Rattle.vk_entry.proofs.lines.PackagePathForm.read.Goals as goal

pub returns : goal.returns
returns c =
    let read = rw c.in-Some.is at c.in_ok-path.ensures in
    other_path c.args.text.now c.in-Some.path c.is_package_path.result read c.is_package_path.ensures.1 c.if-is_package_path.false
