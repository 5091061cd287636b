-- What an operation has to show of an advance over any state: then it is lawful, and the theorem holds of it.
use mathlib.Core.Path.{◌≡◌, refl, sym, ◌∙◌, ap}
use mathlib.Core.Bool.{Bool, true}
use mathlib.Core.List.{List}
use mathlib.Core.Logic.{◌≢◌}
use Prim.Native.Nat.{ℕ, zero, suc, ◌+◌, ◌*◌, ◌-◌, ◌≤◌, ◌<◌, min}
use native.Mathlib.Omega.{arith}
use lib.ListN.{length}
use lib.Dec.{eqb}
use Rattle.history.specs.History.{Out, Opened, History, Valid, After}
use Rattle.history.specs.Advance.{steps, pick_out, Advancing, todo, advanced}
use Rattle.history.proofs.Lawful.{Like, Lawful, Served, Refused, holds}
use Rattle.history.proofs.Steps.{Stepped, One, many, lie-apart}

-- a unit of h rows of w samples, stride apart from off on, that was opened over the plane
pub record Frame (S C A : Type 0) : Type 1 where
  pub own : A → ℕ → C
  pub ok : A → Bool
  pub back : S → S
  pub in_fields : Type 0
  pub w : ℕ
  pub h : ℕ
  pub off : ℕ
  pub stride : ℕ
  pub first : S
  pub plane : List ℕ
  pub final : A → ℕ → ℕ → ℕ
  pub pieces : A → ℕ → ℕ → ℕ

abbrev pub unit_of : {S C A : Type 0} → Advancing S C → Frame S C A → Opened S C A
unit_of o f =
    record {
      answer = advanced o;
      own = f.own;
      ok = f.ok;
      back = f.back;
      in_fields = f.in_fields;
      rows = o.rows;
      complete = o.complete;
      w = f.w;
      h = f.h;
      at = λ y x. f.off + y * f.stride + x;
      first = f.first;
      plane = f.plane;
      final = f.final;
      pieces = λ a k k'. f.pieces a k (k' - k);
    }

module _ {S C A : Type 0} (o : Advancing S C) (f : Frame S C A) (Reached : ℕ → S → Type 0) where
  pub record Fits : Type 0 where
    pub apart : f.w ≤ f.stride
    pub room : (k : ℕ) → k < f.h → f.off + k * f.stride + f.w ≤ length f.plane
    pub opens : Reached 0 f.first
    pub only : (k : ℕ) (s t : S) → Reached k s → Reached k t → s ≡ t
    pub rows : (k : ℕ) (s : S) → Reached k s → o.rows s ≡ k
    pub height : (k : ℕ) (s : S) → Reached k s → o.height s ≡ f.h
    pub complete : (k : ℕ) (s : S) → Reached k s → o.complete s ≡ eqb k f.h
    pub count : (a : A) (n : ℕ) → o.count (f.own a n) ≡ n
    pub admits : (a : A) (n k : ℕ) (s : S) (p : List ℕ) → f.ok a ≡ true → Reached k s → k ≤ f.h → Like (unit_of o f) k p → o.status (f.own a n) s p ≡ 0
    pub pieces : (a : A) (n k m : ℕ) (s : S) → Reached k s → o.pieces (f.own a n) s m ≡ f.pieces a k m
    pub one : (a : A) (n : ℕ) → One (unit_of o f) a Reached (o.step (f.own a n))
    pub backs : f.in_fields → (k : ℕ) (s : S) → Reached k s → k ≤ f.h → f.back s ≡ s

  module _ (t : Fits) where
    declines : (c : C) (s : S) (p : List ℕ) → (advanced o c s p).status ≢ 0 → Refused (unit_of o f) s p (advanced o c s p)
    unfolding advanced
    declines c s p h = go (o.status c s p) _ refl h
      where
        go : (n : ℕ) (w : Out S) → w.status ≡ 0 → (pick_out n w (record { status = n; pieces = 0; state = s; plane = p })).status ≢ 0 →
            Refused (unit_of o f) s p (pick_out n w (record { status = n; pieces = 0; state = s; plane = p }))
        go zero w z h = absurd (h z)
        go (suc n) w z h = record { pieces = refl; state = refl; plane = refl }

    apart : (y x y' x' : ℕ) → x < f.w → x' < f.w → f.off + y * f.stride + x ≡ f.off + y' * f.stride + x' → (y ≡ y') × (x ≡ x')
    apart y x y' x' hx hx' e = lie-apart f.off f.stride f.w y x y' x' t.apart hx hx' e

    serves : (a : A) (n k : ℕ) (s : S) (p : List ℕ) → f.ok a ≡ true → Reached k s → k ≤ f.h → Like (unit_of o f) k p →
        Served (unit_of o f) Reached a k (min f.h (k + n)) p (advanced o (f.own a n) s p)
    unfolding advanced
    serves a n k s p ok r hk l =
        let m : ℕ = min n (f.h - k) in
        let ek : min f.h (k + n) ≡ k + m = omega arith in
        let et : todo o (f.own a n) s ≡ m = rw (t.count a n, t.rows k s r, t.height k s r) in
        let ec : k + m - k ≡ m = omega arith in
        let b : Stepped (unit_of o f) a Reached (o.step (f.own a n)) k (k + m) p (steps (o.step (f.own a n)) m (record { state = s; plane = p })) =
        many (unit_of o f) a Reached (o.step (f.own a n)) apart (t.one a n) m k (record { state = s; plane = p }) (omega arith) r l in
        rw (t.admits a n k s p ok r hk l, et, ek)
        (record { status = refl; pieces = t.pieces a n k m s r ∙ ap (f.pieces a k) (sym ec); state = b.state; plane = b.plane })

    pub lawful : Lawful (unit_of o f)
    lawful =
        record {
          Reached = Reached;
          done = t.rows;
          complete = t.complete;
          apart = apart;
          inside = λ y x hy hx. omega (arith, t.room y hy);
          opens = t.opens;
          only = t.only;
          refuses = declines;
          serves = serves;
          backs = t.backs;
        }

    -- DEMAND 3 of any operation: a history of any length
    pub any_history : (H : History C A) → Valid (unit_of o f) H → After (unit_of o f) H
    any_history = holds (unit_of o f) lawful
