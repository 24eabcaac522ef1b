-- `book_file_writer::put_line` meets its contract: the fields one behind the other, each with its separator, are the line. Assumes nothing.
use Prim.Native.Nat.{ℕ}
use mathlib.Core.Path.{◌≡◌}
use mathlib.Core.List.{List, [], ◌∷◌, ◌++◌, append_assoc}
use Rattle.text.specs.Text.{comma, line_feed, decimal, joined, line_of}
use Rattle.text.specs.PutLaws.{in_room_lem, put_behind}
use Rattle.book_file_writer.proofs.put_line.Goals as goal

line_fields : (a b c d : List ℕ)
    → (((a ++ (comma ∷ [])) ++ (b ++ (comma ∷ []))) ++ (c ++ (comma ∷ []))) ++ (d ++ (line_feed ∷ [])) ≡ line_of (a ∷ b ∷ c ∷ d ∷ [])
unfolding line_of joined
line_fields a b c d = simp append_assoc

pub returns : goal.returns
returns c =
    let a = c.args in
    rw (← line_fields a.name.now (decimal a.position) (decimal a.long) (decimal a.value))
    (put_behind
    (put_behind (put_behind (put_behind (in_room_lem c.put_text-a.ensures) (in_room_lem c.put_text-b.ensures)) (in_room_lem c.put_field-c.ensures)) (in_room_lem c.put_field-d.ensures))
    (in_room_lem c.put_field.ensures))
