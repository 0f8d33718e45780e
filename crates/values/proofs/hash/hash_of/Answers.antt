use Rattle.values.proofs.Hashes.{hashes}
use Rattle.std.proofs.Common.{rules}
use Rattle.values.proofs.hash.hash_of.Goals as goal

pub hash_byte-hash-requires : goal.hash_byte-hash-requires
hash_byte-hash-requires c = search (hashes, rules)

pub loop-b-init : goal.loop-b-init
loop-b-init c = search (hashes, rules)

pub next_unescaped-requires : goal.next_unescaped-requires
next_unescaped-requires c = search (hashes, rules)

pub loop-b-smaller : goal.loop-b-smaller
loop-b-smaller c = search (hashes, rules)

pub loop-b-preserved : goal.loop-b-preserved
loop-b-preserved c = search (hashes, rules)

pub returns : goal.returns
returns c = search (hashes, rules)
