use Rattle.house.proofs.Answers.{answers}
use Rattle.std.proofs.Common.{rules}
use Rattle.house.proofs.form.answer.Goals as goal

pub enum_known-written : goal.enum_known-written
enum_known-written c = search (answers, rules)

pub refuse-requires : goal.refuse-requires
refuse-requires c = search (answers, rules)
