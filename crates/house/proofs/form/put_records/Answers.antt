use Rattle.house.proofs.Forms.{records_put}
use Rattle.std.proofs.Common.{rules}
use Rattle.house.proofs.form.put_records.Goals as goal

pub returns : goal.returns
returns c = search (records_put, rules)
