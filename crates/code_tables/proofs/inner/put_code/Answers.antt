-- `inner::put_code` meets its contract. An entry's code is its value in as many bits as its length says.
use Rattle.code_tables.specs.CodesLaws.{code_at}
use Rattle.code_tables.proofs.inner.put_code.Goals as goal

pub returns : goal.returns
returns c =
    let v = c in
    let s = v in
    let p = c.put_bits in
    rw (code_at s.args.table.now s.args.k s.requires.0.there, ← v.entry_len-len.ensures, ← v.entry_val-val.ensures) p.ensures
