-- A state that is put away and taken back; a text that is read and written again; and how long a text is.
use mathlib.Core.Path.{◌≡◌, refl, sym, ap, ◌∙◌}
use mathlib.Core.Bool.{Bool, true, false, cond}
use mathlib.Core.List.{List, ◌++◌}
use Prim.Native.Nat.{ℕ, ◌+◌, ◌-◌, ◌≤◌}
use native.Mathlib.Omega.{arith}
use lib.Dec.{leb, eqb}
use lib.ListN.{length, get_or, take, drop, replicate, length-drop, get_or-eq_default}
use lib.Seq.{length-take-le, get_or-take, get_or-drop, ext_get_or}
use borrow.Author.Tests.{le-leb, le-ltb, eqb-true}
use Rattle.std.specs.Prelude.{Option, Some, None, Result, Ok, Err}
use Rattle.definition.specs.declared.Operation.{Operation}
use Rattle.definition.specs.declared.Operation.TheVariants.{Luma, User, Pretrained, Chroma}
use Rattle.definition.specs.declared.Refusal.{Refusal}
use Rattle.definition.specs.declared.Refusal.TheVariants.{State as BadState, Text}
use Rattle.definition.specs.Rows.{tab, state_bytes, index_count}
use Rattle.definition.specs.Units.{number_of, operation_of}
use Rattle.definition.specs.Refusals.{index_limit, next_limit, indices_up_to}
use Rattle.definition.specs.Card.{Reading, value, wrong, joined}
use Rattle.definition.specs.StateText.{StateLines, InField, LinesInFields, OpenedInFields, number_limit, text_limit, state_text, lines_in}
use Rattle.definition.specs.Units.{Lent}
use Rattle.laws.proofs.Lists.{length_tab, get_or-tab}
use Rattle.laws.proofs.Passes.{pass_all}
use Rattle.text_laws.proofs.States.{read_back, written_back, in_fields, short}
use Rattle.units.specs.declared.State.{State}
use Rattle.units.specs.Texts.{bytes_before, kept_row, lines_of, state_from, carried_bytes, cleared, StateInFields, misshapen, shaped_as, shaped, text_by, text_of, state_found, state_if, state_by, state_in, back_by, back}
use Rattle.units.specs.Openings.{opened_of}
use Rattle.units.proofs.KeptRows.{before-ten, rows-together, zeros-behind, rows-again, row-within}
use Rattle.units.proofs.Tidy.{Tidy}

-- THE SHAPE
known : (op : Operation) → operation_of (number_of op) ≡ Some op
known Luma = refl
known User = refl
known Pretrained = refl
known Chroma = refl

-- a number that is an operation's
numbered : (n : ℕ) (op : Operation) → operation_of n ≡ Some op → n ≡ number_of op
numbered n op w = go (eqb n 1) (eqb n 2) (eqb n 3) (eqb n 4) refl refl refl refl w
  where
    is : (o : Operation) (k : ℕ) → n ≡ k → k ≡ number_of o → ◌≡◌ {A = Option Operation} (Some o) (Some op) → n ≡ number_of op
    is o k e f g = let h : o ≡ op = cc in e ∙ f ∙ ap number_of h

    go : (a b c d : Bool) → eqb n 1 ≡ a → eqb n 2 ≡ b → eqb n 3 ≡ c → eqb n 4 ≡ d → cond a (Some Luma) (cond b (Some User) (cond c (Some Pretrained) (cond d (Some Chroma) None))) ≡ Some op → n ≡ number_of op
    go true b c d ea eb ec ed e = is Luma 1 (eqb-true n 1 ea) refl e
    go false true c d ea eb ec ed e = is User 2 (eqb-true n 2 eb) refl e
    go false false true d ea eb ec ed e = is Pretrained 3 (eqb-true n 3 ec) refl e
    go false false false true ea eb ec ed e = is Chroma 4 (eqb-true n 4 ed) refl e
    go false false false false ea eb ec ed e = absurd (no e)
      where
        no : ◌≡◌ {A = Option Operation} None (Some op) → ⊥
        no e = cc

same-number : (o op : Operation) → number_of o ≡ number_of op → o ≡ op
same-number o op e =
    let d : Some o ≡ Some op = sym (known o) ∙ ap operation_of e ∙ known op in
    cc

-- the operation of a state whose shape is right
record Shaped (op : Operation) (s : State) : Type 0 where
  number : s.op ≡ number_of op
  fine : misshapen op s ≡ false

shaped-by : (op : Operation) (s : State) → Shaped op s → shaped s ≡ Ok op
shaped-by op s h = rw (h.number, known op, h.fine)

by_shape : (s : State) (op : Operation) → shaped s ≡ Ok op → Shaped op s
by_shape s op e = go (operation_of s.op) refl e
  where
    same : (o : Operation) (b : Bool) → operation_of s.op ≡ Some o → misshapen o s ≡ b → ◌≡◌ {A = Result Operation Refusal} (cond b (Err BadState) (Ok o)) (Ok op) → Shaped op s
    same o true f g h = absurd (no h)
      where
        no : ◌≡◌ {A = Result Operation Refusal} (Err BadState) (Ok op) → ⊥
        no h = cc
    same o false f g h = let d : o ≡ op = cc in rw (← d) (record { number = numbered s.op o f; fine = g })

    go : (r : Option Operation) → operation_of s.op ≡ r → shaped_as r s ≡ Ok op → Shaped op s
    go (Some o) f h = same o (misshapen o s) f refl h
    go None f h = absurd (no h)
      where
        no : ◌≡◌ {A = Result Operation Refusal} (Err BadState) (Ok op) → ⊥
        no h = cc

-- .. and where a state keeps within its limits
within-limits : (op : Operation) (s : State) → s.done ≤ s.given.h → ((j : ℕ) → get_or s.indices j 0 ≤ index_limit op) → s.next ≤ next_limit op → misshapen op s ≡ false
within-limits op s d low n =
    let i : indices_up_to (index_limit op) s.indices ≡ true =
    pass_all (λ j. leb j (index_limit op)) s.indices index_count (λ j _. le-leb (get_or s.indices j 0) (index_limit op) (low j)) in
    rw (le-ltb s.given.h s.done d, i, le-ltb (next_limit op) s.next n)

-- READ AFTER WRITE
bytes-carried : (op : Operation) (s : State) → s.op ≡ number_of op → bytes_before op index_count ≡ carried_bytes s
unfolding bytes_before
bytes-carried Luma s e = rw e
bytes-carried User s e = rw e
bytes-carried Pretrained s e = rw e
bytes-carried Chroma s e = rw e

lines-back : (op : Operation) (s : State) → s.op ≡ number_of op → length s.rows ≡ state_bytes → state_from (lines_of op s) ≡ cleared s
lines-back op s o h =
    let b : joined (tab index_count (kept_row op s.rows)) ≡ take (carried_bytes s) s.rows = rows-together op s.rows ∙ ap (λ k. take k s.rows) (bytes-carried op s o) in
    let low : carried_bytes s ≤ length s.rows = rw (← bytes-carried op s o, h) (before-ten op) in
    let n : length (joined (tab index_count (kept_row op s.rows))) ≡ carried_bytes s = ap length b ∙ length-take-le (carried_bytes s) s.rows low in
    λ i.
    record {
      op = sym o i;
      given = s.given;
      done = s.done;
      next = s.next;
      classes = s.classes;
      indices = s.indices;
      rows = b i ++ replicate (state_bytes - n i) 0;
    }

-- a text that was written is read, and gives the state that was put away, but for what it has no place for
pub back-again : (s : State) (t : List ℕ) → StateInFields s → text_of s ≡ Ok t → state_in t ≡ Ok (cleared s)
unfolding text_of state_in
back-again s t f e = go (shaped s) refl e
  where
    read : (op : Operation) → Shaped op s → state_in (state_text (lines_of op s)) ≡ Ok (cleared s)
    read op x =
        rw (read_back (lines_of op s) (f.lines op x.number), shaped-by op (state_from (lines_of op s)) (record { number = refl; fine = x.fine })) (ap Ok (lines-back op s x.number f.long))

    go : (r : Result Operation Refusal) → shaped s ≡ r → text_by r s ≡ Ok t → state_in t ≡ Ok (cleared s)
    go (Ok op) g w = let d : state_text (lines_of op s) ≡ t = cc in rw (← d) (read op (by_shape s op g))
    go (Err r) g w = absurd (no w)
      where
        no : ◌≡◌ {A = Result (List ℕ) Refusal} (Err r) (Ok t) → ⊥
        no w = cc

-- WRITE AFTER READ
list-whole : (n : ℕ) (l : List ℕ) → length l ≡ n → tab n (λ k. get_or l k 0) ≡ l
list-whole n l e =
    ext_get_or 0 (tab n (λ k. get_or l k 0)) l (length_tab n (λ k. get_or l k 0) ∙ sym e) (λ k h. get_or-tab n (λ k. get_or l k 0) k (rw (length_tab n (λ k. get_or l k 0)) at h))

lines-again : (u : StateLines) → LinesInFields u → lines_of u.op (state_from u) ≡ u
lines-again u c =
    let r : tab index_count (kept_row u.op (joined u.rows ++ replicate (state_bytes - length (joined u.rows)) 0)) ≡ u.rows =
    rows-again u.op u.rows _ c.ten (λ k h. (c.rows k h).size) in
    λ i.
    record {
      op = u.op;
      w = u.w;
      h = u.h;
      edges = u.edges;
      done = u.done;
      classes = u.classes;
      indices = u.indices;
      next = u.next;
      rows = r i;
      strides = list-whole 2 u.strides c.strides.size i;
      offsets = list-whole 6 u.offsets c.offsets.size i;
      pair = list-whole 2 u.pair c.pair.size i;
      kind = u.kind;
    }

-- a text that is read is the text of what was read
pub text-again : (t : List ℕ) (s : State) → state_in t ≡ Ok s → text_of s ≡ Ok t
unfolding state_in text_of
text-again t s e = go (lines_in t) refl e
  where
    text : (u : StateLines) (q : ℕ) → lines_in t ≡ value u q → Shaped u.op (state_from u) → text_of (state_from u) ≡ Ok t
    text u q w x = rw (shaped-by u.op (state_from u) x) (ap Ok (ap state_text (lines-again u (in_fields t u q w)) ∙ sym (written_back t u q w)))

    at : (u : StateLines) (q : ℕ) (r : Result Operation Refusal) → lines_in t ≡ value u q → shaped (state_from u) ≡ r → state_if r (state_from u) ≡ Ok s → text_of s ≡ Ok t
    at u q (Ok op) w g h =
        let x = by_shape (state_from u) op g in
        let d : state_from u ≡ s = cc in
        let o : op ≡ u.op = same-number op u.op (sym x.number) in
        rw (← d) (text u q w (rw o at x))
    at u q (Err r) w g h = absurd (no h)
      where
        no : ◌≡◌ {A = Result State Refusal} (Err r) (Ok s) → ⊥
        no h = cc

    go : (r : Reading StateLines) → lines_in t ≡ r → state_by (state_found r) ≡ Ok s → text_of s ≡ Ok t
    go (value u q) w h = at u q (shaped (state_from u)) w refl h
    go wrong w h = absurd (no h)
      where
        no : ◌≡◌ {A = Result State Refusal} (Err Text) (Ok s) → ⊥
        no h = cc

-- HOW LONG a text is
pub text-short : (s : State) (t : List ℕ) → StateInFields s → text_of s ≡ Ok t → length t ≤ text_limit
unfolding text_of
text-short s t f e = go (shaped s) refl e
  where
    go : (r : Result Operation Refusal) → shaped s ≡ r → text_by r s ≡ Ok t → length t ≤ text_limit
    go (Ok op) g w = let d : state_text (lines_of op s) ≡ t = cc in rw (← d) (short (lines_of op s) (f.lines op (by_shape s op g).number))
    go (Err r) g w = absurd (no w)
      where
        no : ◌≡◌ {A = Result (List ℕ) Refusal} (Err r) (Ok t) → ⊥
        no w = cc

text-by : (op : Operation) (s : State) → Shaped op s → text_of s ≡ Ok (state_text (lines_of op s))
unfolding text_of
text-by op s x = rw (shaped-by op s x)

-- a part of numbers that are in their field
part-within : (limit n m k : ℕ) (l : List ℕ) → InField limit n l → k + m ≤ n → InField limit m (take m (drop k l))
part-within limit n m k l w h =
    record {
      size = length-take-le m (drop k l) (omega (arith, length-drop k l, w.size));
      each = λ j b. rw (get_or-take m (drop k l) j 0 b, get_or-drop) (w.each (k + j) (omega arith));
    }

-- A UNIT THAT WAS OPENED: its state is taken back as it was put away
index-low : (op : Operation) → (index_limit op ≤ number_limit) × (next_limit op ≤ number_limit)
index-low Luma = (omega arith, omega arith)
index-low User = (omega arith, omega arith)
index-low Pretrained = (omega arith, omega arith)
index-low Chroma = (omega arith, omega arith)

tidy-in_fields : (op : Operation) (s : State) (l : Lent) (p : List ℕ) → s.done ≤ s.given.h → OpenedInFields s.given l p → Tidy op s → StateInFields s
tidy-in_fields op s l p d t y = record { long = y.long; lines = λ o e. fields o }
  where
    fields : (o : Operation) → LinesInFields (lines_of o s)
    fields o =
        record {
          w = t.numbers.each 0 (omega arith);
          h = t.numbers.each 1 (omega arith);
          edges = t.numbers.each 2 (omega arith);
          done = let h : s.given.h ≤ number_limit = t.numbers.each 1 (omega arith) in omega arith;
          classes = record { size = y.columns; each = λ k h. y.classes k };
          indices = record { size = y.count; each = λ k h. let a = y.low k in let b = (index-low op).0 in omega (arith, a, b) };
          next = let b = (index-low op).1 in omega (arith, y.next, b);
          ten = refl;
          rows = row-within o s.rows y.long y.rows;
          strides = part-within number_limit 14 2 3 _ t.numbers (omega arith);
          offsets = part-within number_limit 14 6 5 _ t.numbers (omega arith);
          pair = part-within number_limit 14 2 11 _ t.numbers (omega arith);
          kind = t.numbers.each 13 (omega arith);
        }

tidy-cleared : (op : Operation) (s : State) → s.op ≡ number_of op → Tidy op s → cleared s ≡ s
unfolding bytes_before
tidy-cleared op s o y =
    let low : carried_bytes s ≤ length s.rows = rw (← bytes-carried op s o, y.long) (before-ten op) in
    let z : take (carried_bytes s) s.rows ++ replicate (length s.rows - carried_bytes s) 0 ≡ s.rows =
    zeros-behind (carried_bytes s) s.rows low (λ i h. by op y i (rw (← bytes-carried op s o) at h)) in
    λ i. record { op = s.op; given = s.given; done = s.done; next = s.next; classes = s.classes; indices = s.indices; rows = (rw y.long at z) i }
  where
    by : (o : Operation) → Tidy o s → (i : ℕ) → bytes_before o index_count ≤ i → get_or s.rows i 0 ≡ 0
    by Luma y i h = y.rest refl i h
    by User y i h = y.rest refl i h
    by Pretrained y i h = y.rest refl i h
    by Chroma y i h = get_or-eq_default s.rows 0 (rw (sym y.long) at h)

pub comes-back : (op : Operation) (s : State) (l : Lent) (p : List ℕ) → s.op ≡ number_of op → s.done ≤ s.given.h → OpenedInFields s.given l p → Tidy op s → back s ≡ s
unfolding back
comes-back op s l p o d t y =
    let x : Shaped op s = record { number = o; fine = within-limits op s d y.low y.next } in
    let e : text_of s ≡ Ok (state_text (lines_of op s)) = text-by op s x in
    ap back_by e ∙ ap (λ r. (opened_of r).state) (back-again s (state_text (lines_of op s)) (tidy-in_fields op s l p d t y) e) ∙ tidy-cleared op s o y

-- .. and of a text that is read
pub read-short : (t : List ℕ) (s : State) → state_in t ≡ Ok s → length t ≤ text_limit
unfolding state_in
read-short t s e = go (lines_in t) refl e
  where
    go : (r : Reading StateLines) → lines_in t ≡ r → state_by (state_found r) ≡ Ok s → length t ≤ text_limit
    go (value u q) w h = rw (written_back t u q w) (short u (in_fields t u q w))
    go wrong w h = absurd (no h)
      where
        no : ◌≡◌ {A = Result State Refusal} (Err Text) (Ok s) → ⊥
        no h = cc
