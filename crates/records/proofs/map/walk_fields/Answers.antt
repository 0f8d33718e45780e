use Rattle.records.proofs.Loops.{walks, walk_id, walk_number, walk_type, walk_description, walk_unkept}
use Rattle.std.proofs.Common.{rules}
use Rattle.records.proofs.map.walk_fields.Goals as goal

pub loop-x-init : goal.loop-x-init
loop-x-init c = search (walks, rules)

pub slots_of-slots-requires : goal.slots_of-slots-requires
slots_of-slots-requires c = search (walks, rules)

pub read_field-requires : goal.read_field-requires
read_field-requires c = search (walks, rules)

pub returns-in-Err : goal.returns-in-Err
returns-in-Err c = search (walks, rules)

pub fields_of-requires : goal.fields_of-requires
fields_of-requires c = search (walks, rules)

pub returns-in-Ok-Last : goal.returns-in-Ok-Last
returns-in-Ok-Last c = let e = rw c.in-Ok-Last.field-0-is at c.in-Ok-Last.is in search (walks, e, rules)

pub overflow_add-fields : goal.overflow_add-fields
overflow_add-fields c = let e = rw c.in-Ok-Next.field-0-is at c.in-Ok-Next.is in search (walks, e, rules)

pub distinct_at-distinct-requires : goal.distinct_at-distinct-requires
distinct_at-distinct-requires c = search (walks, rules)

pub enum_told-1 : goal.enum_told-1
enum_told-1 c = search (walks, rules)

pub filled-id-requires : goal.filled-id-requires
filled-id-requires c = search (walks, rules)

pub loop-x-smaller-in-Id : goal.loop-x-smaller-in-Id
loop-x-smaller-in-Id c = search (walks, rules)

pub loop-x-preserved-in-Id : goal.loop-x-preserved-in-Id
loop-x-preserved-in-Id c = walk_id c.loop-x.invariant c.slots_of-slots.ensures c.read_field.ensures (rw c.in-Ok-Next.field-0-is at c.in-Ok-Next.is) c.distinct_at-distinct.ensures c.filled-id.ensures (search rules)

pub enum_told-in-Number : goal.enum_told-in-Number
enum_told-in-Number c = search (walks, rules)

pub filled-number-requires : goal.filled-number-requires
filled-number-requires c = search (walks, rules)

pub loop-x-smaller-in-Number : goal.loop-x-smaller-in-Number
loop-x-smaller-in-Number c = search (walks, rules)

pub loop-x-preserved-in-Number : goal.loop-x-preserved-in-Number
loop-x-preserved-in-Number c = walk_number c.loop-x.invariant c.slots_of-slots.ensures c.read_field.ensures (rw c.in-Ok-Next.field-0-is at c.in-Ok-Next.is) c.distinct_at-distinct.ensures c.filled-number.ensures (search rules)

pub enum_told-in-ValueType : goal.enum_told-in-ValueType
enum_told-in-ValueType c = search (walks, rules)

pub filled-kind-requires : goal.filled-kind-requires
filled-kind-requires c = search (walks, rules)

pub loop-x-smaller-in-ValueType : goal.loop-x-smaller-in-ValueType
loop-x-smaller-in-ValueType c = search (walks, rules)

pub loop-x-preserved-in-ValueType : goal.loop-x-preserved-in-ValueType
loop-x-preserved-in-ValueType c = walk_type c.loop-x.invariant c.slots_of-slots.ensures c.read_field.ensures (rw c.in-Ok-Next.field-0-is at c.in-Ok-Next.is) c.distinct_at-distinct.ensures c.filled-kind.ensures (search rules)

pub enum_told-in-Description : goal.enum_told-in-Description
enum_told-in-Description c = search (walks, rules)

pub filled-description-requires : goal.filled-description-requires
filled-description-requires c = search (walks, rules)

pub loop-x-smaller-in-Description : goal.loop-x-smaller-in-Description
loop-x-smaller-in-Description c = search (walks, rules)

pub loop-x-preserved-in-Description : goal.loop-x-preserved-in-Description
loop-x-preserved-in-Description c = walk_description c.loop-x.invariant c.slots_of-slots.ensures c.read_field.ensures (rw c.in-Ok-Next.field-0-is at c.in-Ok-Next.is) c.distinct_at-distinct.ensures c.filled-description.ensures (search rules)

pub loop-x-smaller : goal.loop-x-smaller
loop-x-smaller c = search (walks, rules)

pub loop-x-preserved : goal.loop-x-preserved
loop-x-preserved c = walk_unkept c.loop-x.invariant c.slots_of-slots.ensures c.read_field.ensures (rw c.in-Ok-Next.field-0-is at c.in-Ok-Next.is) c.distinct_at-distinct.ensures (search rules) (search rules) (search rules) (search rules)
