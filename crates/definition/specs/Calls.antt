-- docs/SCOPE.md, 'What is restored': what the calls of an operation are given and lent, as their parameters have it: of what an operation has no use for the numbers are 0, and the lists empty.
use Rattle.std.specs.Prelude.{List, [], ℕ, ℤ, pos}
use Rattle.definition.specs.declared.Operation.{Operation}
use Rattle.definition.specs.declared.Operation.TheVariants.{Luma, User, Pretrained, Chroma}
use Rattle.definition.specs.declared.Given.{Given}
use Rattle.definition.specs.declared.Lists.{Lists}
use Rattle.definition.specs.Units.{Lent}

-- THE NUMBERS that a chroma unit is opened with
abbrev pub given_c : ℕ → ℕ → ℕ → ℕ → ℕ → ℕ → ℕ → ℕ → ℕ → ℕ → ℕ → ℕ → ℕ → ℕ → Given
given_c w h edges stride luma_stride off top_off bottom_off luma_off luma_top_off luma_bottom_off ss_hor ss_ver kind =
    record {
      w = w;
      h = h;
      edges = edges;
      stride = stride;
      luma_stride = luma_stride;
      off = off;
      top_off = top_off;
      bottom_off = bottom_off;
      luma_off = luma_off;
      luma_top_off = luma_top_off;
      luma_bottom_off = luma_bottom_off;
      ss_hor = ss_hor;
      ss_ver = ss_ver;
      kind = kind;
    }

-- .. and one of another operation: what it does not use is 0
abbrev pub given_y : ℕ → ℕ → ℕ → ℕ → ℕ → ℕ → ℕ → Given
given_y w h edges stride off top_off bottom_off = given_c w h edges stride 0 off top_off bottom_off 0 0 0 0 0 0

-- WHAT IS LENT besides the plane
-- pretrained sets are numbers of 16 bits, all other filters of 8
abbrev pub filters_of : Operation → List ℤ → List ℤ → List ℤ
filters_of Luma filters wide = filters
filters_of User filters wide = filters
filters_of Pretrained filters wide = wide
filters_of Chroma filters wide = filters

abbrev pub unit_lent : Operation → List ℕ → List ℕ → List ℕ → List ℤ → List ℤ → List ℕ → List ℕ → List ℕ → ℤ → List ℕ → List ℕ → List ℕ → List ℕ → Lent
unit_lent op left top bottom filters wide map subclass noskip q luma_plane luma_top luma_bottom skip =
    record {
      left = left;
      top = top;
      bottom = bottom;
      luma_plane = luma_plane;
      luma_top = luma_top;
      luma_bottom = luma_bottom;
      skip = skip;
      noskip = noskip;
      map = map;
      subclass = subclass;
      filters = filters_of op filters wide;
      q = q;
    }

-- .. by each operation
abbrev pub luma_lent : List ℕ → List ℕ → List ℕ → List ℤ → List ℕ → Lent
luma_lent left top bottom filter skip = unit_lent Luma left top bottom filter [] [] [] [] (pos 0) [] [] [] skip

abbrev pub classed_lent : List ℕ → List ℕ → List ℕ → List ℤ → List ℕ → List ℕ → List ℕ → List ℕ → ℤ → Lent
classed_lent left top bottom filters map subclass noskip skip q = unit_lent User left top bottom filters [] map subclass noskip q [] [] [] skip

abbrev pub chroma_lent : List ℕ → List ℕ → List ℕ → List ℤ → List ℕ → List ℕ → List ℕ → List ℕ → Lent
chroma_lent left top bottom filter luma_plane luma_top luma_bottom skip =
    unit_lent Chroma left top bottom filter [] [] [] [] (pos 0) luma_plane luma_top luma_bottom skip

-- .. and what the code's lists hold
abbrev pub lists_lent : Operation → Lists → Lent
lists_lent op l =
    unit_lent op l.left.now l.top.now l.bottom.now l.filters.now l.wide.now l.map.now l.subclass.now l.noskip.now l.base_q l.luma.now l.luma_top.now l.luma_bottom.now l.skip.now

-- a call of advance: which operation, how many rows, and all that is lent besides the plane
pub record Call : Type 0 where
  pub op : Operation
  pub count : ℕ
  pub lent : Lent

abbrev pub call_of : Operation → ℕ → Lent → Call
call_of op count l = record { op = op; count = count; lent = l }
