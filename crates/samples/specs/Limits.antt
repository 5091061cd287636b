-- The table of refusals at its limits (docs/SCOPE.md, 'Refusals'): the status of the definition beside the number that the table gives. One proof that antt computes.
use Rattle.std.specs.Prelude.{Bool, true, cond, not, ◌&&◌, List, [], ◌∷◌, ◌++◌, ◌≡◌, refl, ℕ, ◌+◌, ◌-◌, ◌*◌, ltb, eqb, pos, replicate, set}
use Rattle.definition.specs.declared.Operation.{Operation}
use Rattle.definition.specs.declared.Operation.TheVariants.{Luma, User, Pretrained, Chroma}
use Rattle.definition.specs.declared.Given.{Given}
use Rattle.definition.specs.declared.Sizes.{Sizes}
use Rattle.definition.specs.Units.{Lent, number_of, classed, set_size}
use Rattle.definition.specs.Refusals.{◌⇒◌, lowest, sizes_of, unit_status, first_pass, bad_shape, bad_kept, class_status, plane_status}

-- a status beside the table's number; the least number that passes, beside the status of one less; the greatest, beside the status of one more
infix 20 ◌gives◌
infix 20 ◌needs◌else◌
infix 20 ◌takes◌else◌
data Case : Type 0 where
  ◌gives◌ : ℕ → ℕ → Case
  ◌needs◌else◌ : (ℕ → ℕ) → ℕ → ℕ → Case
  ◌takes◌else◌ : (ℕ → ℕ) → ℕ → ℕ → Case

agree : List Case → Bool
agree [] = true
agree ((got gives said) ∷ rest) = eqb got said && agree rest
agree ((status needs least else said) ∷ rest) = eqb (status least) 0 && eqb (status (least - 1)) said && agree rest
agree ((status takes most else said) ∷ rest) = eqb (status most) 0 && eqb (status (most + 1)) said && agree rest

-- lent bytes: how many there are, and where their first row starts
infix 30 ◌from◌
data Rows : Type 0 where
  ◌from◌ : ℕ → ℕ → Rows

count : Rows → ℕ
count (bytes from start) = bytes

first : Rows → ℕ
first (bytes from start) = start

-- no bytes, and as many as the small units below can ask for
none : Rows
none = 0 from 0

ample : Rows
ample = 2000 from 200

-- a unit in three parts: its own rows, the luma rows beside a chroma unit's, and the lengths of its lists
record Own : Type 0 where
  w : ℕ
  h : ℕ
  edges : ℕ
  stride : ℕ
  plane : Rows
  top : Rows
  bottom : Rows

record Beside : Type 0 where
  pair : ℕ × ℕ
  kind : ℕ
  stride : ℕ
  plane : Rows
  top : Rows
  bottom : Rows

record Lists : Type 0 where
  left : ℕ
  skip : ℕ
  noskip : ℕ
  filters : ℕ

-- what it is opened with, and the lengths of all that is lent. An operation that has classes has a good map; the others do not look at theirs.
numbers : Own → Beside → Given
numbers o b =
    record {
      w = o.w;
      h = o.h;
      edges = o.edges;
      stride = o.stride;
      luma_stride = b.stride;
      off = first o.plane;
      top_off = first o.top;
      bottom_off = first o.bottom;
      luma_off = first b.plane;
      luma_top_off = first b.top;
      luma_bottom_off = first b.bottom;
      ss_hor = b.pair.0;
      ss_ver = b.pair.1;
      kind = b.kind;
    }

lengths : Operation → Own → Beside → Lists → Sizes
lengths op o b l =
    record {
      plane = count o.plane;
      left = l.left;
      top = count o.top;
      bottom = count o.bottom;
      luma_plane = count b.plane;
      luma_top = count b.top;
      luma_bottom = count b.bottom;
      skip = l.skip;
      noskip = l.noskip;
      filters = l.filters;
      bad_map = not (classed op);
    }

status : Operation → Own → Beside → Lists → ℕ
status op o b l = unit_status op (numbers o b) (lengths op o b l)

-- the same by lists, of zeros but for the map and the subclasses, whose entries are looked at
zeros : ℕ → List ℕ
zeros n = replicate n 0

lists : Own → Beside → Lists → List ℕ → List ℕ → Lent
lists o b l map subclass =
    record {
      left = zeros l.left;
      top = zeros (count o.top);
      bottom = zeros (count o.bottom);
      luma_plane = zeros (count b.plane);
      luma_top = zeros (count b.top);
      luma_bottom = zeros (count b.bottom);
      skip = zeros l.skip;
      noskip = zeros l.noskip;
      map = map;
      subclass = subclass;
      filters = replicate l.filters (pos 0);
      q = pos 0;
    }

by_lists : Operation → Own → Beside → Lists → List ℕ → List ℕ → ℕ
by_lists op o b l map subclass = unit_status op (numbers o b) (sizes_of op (lists o b l map subclass) (zeros (count o.plane)))

-- an 8 by 4 unit by its edges, stride and own rows, and luma rows 32 apart by pair and kind
small : ℕ → ℕ → Rows → Rows → Rows → Own
small edges stride plane top bottom = record { w = 8; h = 4; edges = edges; stride = stride; plane = plane; top = top; bottom = bottom }

luma : ℕ × ℕ → ℕ → Rows → Rows → Rows → Beside
luma pair kind plane top bottom = record { pair = pair; kind = kind; stride = 32; plane = plane; top = top; bottom = bottom }

-- .. and with all that it needs, where something else is asked about
unit : ℕ → Own
unit edges = small edges 16 ample ample ample

beside : Beside
beside = luma (0, 0) 0 ample ample ample

enough : Operation → Lists
enough op = record { left = 24; skip = 4; noskip = 1; filters = set_size op }

-- 1, 2: a luma unit of w by h whose lists just suffice
sides : ℕ → ℕ → ℕ
sides w h =
    status Luma (record { w = w; h = h; edges = 0; stride = w; plane = w * h from 0; top = none; bottom = none }) beside
    (record { left = 0; skip = h; noskip = 0; filters = 16 })

-- 3, 5: by stride, and by where the unit starts in a plane of so many bytes
plane : Operation → ℕ → ℕ → ℕ → ℕ → ℕ
plane op edges stride off bytes = status op (small edges stride (bytes from off) ample ample) beside (enough op)

-- .. by luma's stride and the bytes of the luma plane
luma_stride : Operation → ℕ → ℕ → ℕ
luma_stride op stride bytes =
    status op (unit 0) (record { pair = (0, 0); kind = 0; stride = stride; plane = bytes from 0; top = none; bottom = none }) (enough op)

-- 4: by pair and kind
sampled : ℕ × ℕ → ℕ → ℕ
sampled pair kind = status Chroma (unit 0) (luma pair kind ample ample ample) (enough Chroma)

-- 6: by the bytes of the left list
left_list : Operation → ℕ → ℕ → ℕ
left_list op edges left = status op (unit edges) beside (record { left = left; skip = 4; noskip = 1; filters = set_size op })

-- 7, 8: by where the saved rows start, 16 bytes apart, in so many bytes
above : Operation → ℕ → ℕ → ℕ → ℕ
above op edges off bytes = status op (small edges 16 ample (bytes from off) ample) beside (enough op)

below : Operation → ℕ → ℕ → ℕ → ℕ
below op edges off bytes = status op (small edges 16 ample ample (bytes from off)) beside (enough op)

-- 9: a unit of eight rows, by how many masks there are
masks : Operation → ℕ → ℕ → ℕ
masks op noskip skip =
    status op (record { w = 4; h = 8; edges = 0; stride = 8; plane = ample; top = none; bottom = none }) beside
    (record { left = 0; skip = skip; noskip = noskip; filters = set_size op })

-- 10: by so many filter numbers
filters : Operation → ℕ → ℕ
filters op n = status op (unit 0) beside (record { left = 0; skip = 4; noskip = 1; filters = n })

-- .. and by lists: noskip, the map and the subclass list, beside so many filter numbers
listed : Operation → ℕ → List ℕ → List ℕ → ℕ → ℕ
listed op noskip map subclass n =
    by_lists op (small 0 8 (32 from 0) none none) (luma (0, 0) 0 none none none)
    (record { left = 0; skip = 4; noskip = noskip; filters = n }) map subclass

mapped : Operation → List ℕ → List ℕ → ℕ → ℕ
mapped op map subclass n = listed op 1 map subclass n

-- maps of zeros but for an entry at the start or at the end; two subclasses
starting : ℕ → List ℕ
starting entry = entry ∷ zeros 4095

ending : ℕ → List ℕ
ending entry = zeros 4095 ++ entry ∷ []

two : ℕ → List ℕ
two second = 0 ∷ second ∷ []

-- 11: by pair and kind, and by where the luma rows start in so many bytes: of the plane, and of the saved borders above and below
luma_plane : ℕ → ℕ × ℕ → ℕ → ℕ → ℕ → ℕ
luma_plane edges pair kind off bytes = status Chroma (unit edges) (luma pair kind (bytes from off) ample ample) (enough Chroma)

luma_above : ℕ → ℕ × ℕ → ℕ → ℕ → ℕ → ℕ
luma_above edges pair kind off bytes = status Chroma (unit edges) (luma pair kind ample (bytes from off) ample) (enough Chroma)

luma_below : ℕ → ℕ × ℕ → ℕ → ℕ → ℕ → ℕ
luma_below edges pair kind off bytes = status Chroma (unit edges) (luma pair kind ample ample (bytes from off)) (enough Chroma)

-- a chroma unit with left, right, top and bottom of which everything is wrong from a number of the table on
wrong_from : ℕ → ℕ
wrong_from n =
    let part : ℕ → ℕ → ℕ → ℕ = λ number good bad. cond (ltb number n) good bad in
    status Chroma
    (record {
      w = part 1 8 6;
      h = part 2 4 6;
      edges = 15;
      stride = part 3 16 3;
      plane = part 5 2000 0 from 200;
      top = part 7 2000 0 from 200;
      bottom = part 8 2000 0 from 200;
    })
    (luma (0, 0) (part 4 0 3) (part 11 2000 0 from 200) ample ample)
    (record { left = part 6 24 0; skip = part 9 4 0; noskip = 0; filters = part 10 18 0 })

-- .. and one by lists that just suffice, of which one is one shorter: 1 plane, 2 left, 3 top, 4 bottom, 5 luma plane, 6 luma top, 7 luma bottom, 8 skip, 9 filter
shorter : ℕ → ℕ
shorter which =
    let part : ℕ → ℕ → ℕ = λ number n. cond (eqb which number) (n - 1) n in
    by_lists Chroma (small 15 16 (part 1 58 from 0) (part 3 28 from 2) (part 4 29 from 3))
    (luma (0, 0) 0 (part 5 112 from 4) (part 6 49 from 5) (part 7 50 from 6))
    (record { left = part 2 24; skip = part 8 4; noskip = 0; filters = part 9 18 }) [] []

-- 12: the class index, by the rows' bytes, a row index, the masks and bx, by, block rows
index : ℕ → ℕ → ℕ → ℕ → ℕ → ℕ → ℕ
index rows at noskip bx by bh = class_status rows (replicate 10 at) noskip bx by bh

-- a whole plane, lent what the largest asks for
whole : ℕ → ℕ → ℕ → ℕ
whole w h u = plane_status w h u 1048576 4096 16 8192

-- 13: the state of a unit of four rows, by the number of its operation, rows done, one of its ten row indices, and its next row
shape : Operation → ℕ → ℕ → ℕ → ℕ → ℕ → ℕ
shape op number done place at next =
    lowest ((bad_shape op (not (eqb number (number_of op))) done 4 (set (zeros 10) place at) next ⇒ 13) ∷ [])

-- .. each of these alone
handed : Operation → ℕ → ℕ
handed op number = shape op number 0 0 0 0

done : Operation → ℕ → ℕ
done op rows = shape op (number_of op) rows 0 0 0

row_index : Operation → ℕ → ℕ → ℕ
row_index op place at = shape op (number_of op) 0 place at 0

next : Operation → ℕ → ℕ
next op row = shape op (number_of op) 0 0 0 row

-- .. and by so many filter numbers and one of its sixteen kept classes
kept : Operation → ℕ → ℕ → ℕ → ℕ
kept op n place class = lowest ((bad_kept op (set (zeros 16) place class) n ⇒ 13) ∷ [])

-- edges are 1 left, 2 right, 4 top, 8 bottom, 16 top integrated, 32 bottom integrated
table : List Case
table =
    -- w: 4, 64 pass; 0, 6, 68 give 1
    (sides 4 4 gives 0) ∷
    (sides 64 4 gives 0) ∷
    (sides 0 4 gives 1) ∷
    (sides 6 4 gives 1) ∷
    (sides 68 4 gives 1) ∷
    -- h: 64 passes; 0, 6, 68 give 2
    (sides 4 64 gives 0) ∷
    (sides 4 0 gives 2) ∷
    (sides 4 6 gives 2) ∷
    (sides 4 68 gives 2) ∷
    -- stride: w, and w + e with the right bit; 65,536
    ((λ stride. plane Luma 0 stride 0 32) needs 8 else 3) ∷
    ((λ stride. plane Luma 2 stride 0 48) needs 12 else 3) ∷
    ((λ stride. plane User 2 stride 0 48) needs 12 else 3) ∷
    ((λ stride. plane Pretrained 2 stride 0 48) needs 12 else 3) ∷
    ((λ stride. plane Chroma 2 stride 0 40) needs 10 else 3) ∷
    ((λ stride. plane Luma 0 stride 0 196616) takes 65536 else 3) ∷
    -- luma's stride, in a chroma unit only: 65,536, and no least one
    ((λ stride. luma_stride Chroma stride 196616) takes 65536 else 3) ∷
    (luma_stride Chroma 65536 needs 196616 else 11) ∷
    (luma_stride Chroma 0 needs 8 else 11) ∷
    (luma_stride Luma 65537 0 gives 0) ∷
    -- pairs (0,0), (1,0) and (1,1); kinds 0 to 2, also where the kind is not used
    (sampled (0, 1) 0 gives 4) ∷
    (sampled (2, 0) 0 gives 4) ∷
    (sampled (1, 2) 0 gives 4) ∷
    (sampled (0, 0) takes 2 else 4) ∷
    (sampled (1, 0) takes 2 else 4) ∷
    (sampled (1, 1) takes 2 else 4) ∷
    -- the plane: its last sample, e more with the right bit, e rows more with the bottom integrated; nothing before it, as left samples have their own list
    (plane Luma 0 8 0 needs 32 else 5) ∷
    (plane Luma 0 8 1 needs 33 else 5) ∷
    (plane Luma 0 8 18446744073709551615 32 gives 5) ∷
    (plane Luma 2 16 0 needs 60 else 5) ∷
    (plane Luma 32 8 0 needs 64 else 5) ∷
    (plane Luma (1 + 32) 8 0 needs 64 else 5) ∷
    (plane User 32 8 0 needs 64 else 5) ∷
    (plane Pretrained 32 8 0 needs 64 else 5) ∷
    (plane Chroma 2 16 0 needs 58 else 5) ∷
    (plane Chroma 32 8 0 needs 48 else 5) ∷
    -- left bit: six bytes for each row
    (left_list Luma 1 needs 24 else 6) ∷
    (left_list Chroma 1 needs 24 else 6) ∷
    (left_list Luma 0 0 gives 0) ∷
    -- saved rows above: two, but four where integrated and not chroma; e bytes before the first with the left bit, e behind the last with the right bit
    (above Luma 4 0 needs 24 else 7) ∷
    (above Luma (2 + 4) 0 needs 28 else 7) ∷
    (above Luma (1 + 4) 4 needs 28 else 7) ∷
    ((λ off. above Luma (1 + 4) off 28) needs 4 else 7) ∷
    (above Luma 16 0 needs 56 else 7) ∷
    (above Luma (4 + 16) 0 needs 56 else 7) ∷
    ((λ off. above Luma (1 + 16) off 60) needs 4 else 7) ∷
    ((λ off. above User (1 + 4) off 28) needs 4 else 7) ∷
    (above User 16 0 needs 56 else 7) ∷
    ((λ off. above Pretrained (1 + 4) off 28) needs 4 else 7) ∷
    (above Pretrained 16 0 needs 56 else 7) ∷
    (above Chroma 4 0 needs 24 else 7) ∷
    (above Chroma (2 + 4) 0 needs 26 else 7) ∷
    ((λ off. above Chroma (1 + 4) off 26) needs 2 else 7) ∷
    (above Chroma 16 0 needs 24 else 7) ∷
    ((λ off. above Chroma (1 + 16) off 26) needs 2 else 7) ∷
    -- .. and below: two
    (below Luma 8 0 needs 24 else 8) ∷
    (below Luma (2 + 8) 0 needs 28 else 8) ∷
    (below Luma (1 + 8) 4 needs 28 else 8) ∷
    ((λ off. below Luma (1 + 8) off 28) needs 4 else 8) ∷
    ((λ off. below User (1 + 8) off 28) needs 4 else 8) ∷
    ((λ off. below Pretrained (1 + 8) off 28) needs 4 else 8) ∷
    (below Chroma 8 0 needs 24 else 8) ∷
    (below Chroma (2 + 8) 0 needs 26 else 8) ∷
    ((λ off. below Chroma (1 + 8) off 26) needs 2 else 8) ∷
    -- .. and where no row is padded from, neither place nor length is looked at; bits from 64 on are ignored
    (above Luma (1 + 2 + 8 + 32) 0 0 gives 0) ∷
    (below Luma (1 + 2 + 4 + 16) 0 0 gives 0) ∷
    (below Luma (1 + 8 + 32) 0 0 gives 0) ∷
    (above Luma 64 0 0 gives 0) ∷
    (below Luma 64 0 0 gives 0) ∷
    -- masks: skip for each row, noskip for each block row
    (masks Luma 0 needs 8 else 9) ∷
    (masks Chroma 0 needs 8 else 9) ∷
    (masks User 2 needs 8 else 9) ∷
    ((λ noskip. masks User noskip 8) needs 2 else 9) ∷
    ((λ noskip. masks Pretrained noskip 8) needs 2 else 9) ∷
    -- filters: 16 for luma, 18 for chroma; whole sets of 18 or 13
    (filters Luma needs 16 else 10) ∷
    (filters Luma takes 16 else 10) ∷
    (filters Chroma needs 18 else 10) ∷
    (filters Chroma takes 18 else 10) ∷
    (filters User needs 18 else 10) ∷
    (filters User takes 18 else 10) ∷
    (filters User needs 36 else 10) ∷
    (filters Pretrained needs 13 else 10) ∷
    (filters Pretrained takes 13 else 10) ∷
    (filters Pretrained needs 26 else 10) ∷
    -- the map: 4,096 entries, each below the length of the subclass list; each subclass, reached or not, below the number of sets: here three
    ((λ n. mapped User (zeros n) (two 2) 54) needs 4096 else 10) ∷
    ((λ n. mapped User (zeros n) (two 2) 54) takes 4096 else 10) ∷
    ((λ entry. mapped User (starting entry) (two 2) 54) takes 1 else 10) ∷
    ((λ entry. mapped User (ending entry) (two 2) 54) takes 1 else 10) ∷
    ((λ subclass. mapped User (zeros 4096) (two subclass) 54) takes 2 else 10) ∷
    ((λ n. mapped Pretrained (zeros n) (two 2) 39) needs 4096 else 10) ∷
    ((λ n. mapped Pretrained (zeros n) (two 2) 39) takes 4096 else 10) ∷
    ((λ entry. mapped Pretrained (starting entry) (two 2) 39) takes 1 else 10) ∷
    ((λ entry. mapped Pretrained (ending entry) (two 2) 39) takes 1 else 10) ∷
    ((λ subclass. mapped Pretrained (zeros 4096) (two subclass) 39) takes 2 else 10) ∷
    (mapped User (zeros 4096) (two 0) 0 gives 10) ∷
    (mapped Luma [] [] 16 gives 0) ∷
    -- the luma plane of a chroma unit: with vertical subsampling two rows to each of its own, of which kind 2 does not need the last
    (luma_plane 0 (0, 0) 0 0 needs 104 else 11) ∷
    (luma_plane 0 (1, 0) 2 0 needs 112 else 11) ∷
    (luma_plane 0 (1, 1) 0 0 needs 240 else 11) ∷
    (luma_plane 0 (1, 1) 1 0 needs 240 else 11) ∷
    (luma_plane 0 (1, 1) 2 0 needs 208 else 11) ∷
    -- .. four bytes before the first row with the left bit, four behind the last with the right bit
    ((λ off. luma_plane 1 (0, 0) 0 off 108) needs 4 else 11) ∷
    (luma_plane 2 (0, 0) 0 0 needs 108 else 11) ∷
    (luma_plane 2 (1, 1) 2 0 needs 212 else 11) ∷
    -- .. rows for two of its own above where the top is integrated, and below where the bottom is
    ((λ off. luma_plane 16 (0, 0) 0 off 168) needs 64 else 11) ∷
    ((λ off. luma_plane 16 (1, 0) 0 off 176) needs 64 else 11) ∷
    ((λ off. luma_plane 16 (1, 1) 1 off 368) needs 128 else 11) ∷
    ((λ off. luma_plane 16 (1, 1) 2 off 336) needs 128 else 11) ∷
    ((λ off. luma_plane (1 + 16) (1, 1) 0 off 372) needs 132 else 11) ∷
    (luma_plane 32 (0, 0) 0 0 needs 168 else 11) ∷
    (luma_plane 32 (1, 0) 0 0 needs 176 else 11) ∷
    (luma_plane 32 (1, 1) 1 0 needs 368 else 11) ∷
    (luma_plane 32 (1, 1) 2 0 needs 336 else 11) ∷
    -- saved luma rows above: two, but one under kind 2 with vertical subsampling; none where integrated
    (luma_above 4 (0, 0) 2 0 needs 40 else 11) ∷
    (luma_above 4 (1, 0) 2 0 needs 48 else 11) ∷
    (luma_above 4 (1, 1) 0 0 needs 48 else 11) ∷
    (luma_above 4 (1, 1) 1 0 needs 48 else 11) ∷
    (luma_above 4 (1, 1) 2 0 needs 16 else 11) ∷
    (luma_above (2 + 4) (1, 1) 2 0 needs 20 else 11) ∷
    ((λ off. luma_above (1 + 4) (0, 0) 0 off 44) needs 4 else 11) ∷
    ((λ off. luma_above (1 + 4) (1, 1) 1 off 52) needs 4 else 11) ∷
    ((λ off. luma_above (1 + 4) (1, 1) 2 off 20) needs 4 else 11) ∷
    (luma_above (1 + 8) (1, 1) 1 0 0 gives 0) ∷
    (luma_above (1 + 4 + 16) (1, 1) 1 0 0 gives 0) ∷
    -- .. and below: two for every kind; none where integrated
    (luma_below 8 (0, 0) 0 0 needs 40 else 11) ∷
    (luma_below 8 (1, 0) 0 0 needs 48 else 11) ∷
    (luma_below 8 (1, 1) 0 0 needs 48 else 11) ∷
    (luma_below 8 (1, 1) 1 0 needs 48 else 11) ∷
    (luma_below 8 (1, 1) 2 0 needs 48 else 11) ∷
    (luma_below (2 + 8) (1, 1) 2 0 needs 52 else 11) ∷
    ((λ off. luma_below (1 + 8) (0, 0) 0 off 44) needs 4 else 11) ∷
    ((λ off. luma_below (1 + 8) (1, 1) 2 off 52) needs 4 else 11) ∷
    (luma_below (1 + 4) (1, 1) 1 0 0 gives 0) ∷
    (luma_below (1 + 8 + 32) (1, 1) 1 0 0 gives 0) ∷
    -- the lowest number first
    (wrong_from 1 gives 1) ∷
    (wrong_from 2 gives 2) ∷
    (wrong_from 3 gives 3) ∷
    (wrong_from 4 gives 4) ∷
    (wrong_from 5 gives 5) ∷
    (wrong_from 6 gives 6) ∷
    (wrong_from 7 gives 7) ∷
    (wrong_from 8 gives 8) ∷
    (wrong_from 9 gives 9) ∷
    (wrong_from 10 gives 10) ∷
    (wrong_from 11 gives 11) ∷
    (wrong_from 12 gives 0) ∷
    -- each length is that of its own list
    (shorter 0 gives 0) ∷
    (shorter 1 gives 5) ∷
    (shorter 2 gives 6) ∷
    (shorter 3 gives 7) ∷
    (shorter 4 gives 8) ∷
    (shorter 5 gives 11) ∷
    (shorter 6 gives 11) ∷
    (shorter 7 gives 11) ∷
    (shorter 8 gives 9) ∷
    (shorter 9 gives 10) ∷
    ((λ noskip. listed User noskip (zeros 4096) (two 2) 54) needs 1 else 9) ∷
    -- the class index: bx over 15, block rows not 1 to 16, by not below them; then rows under 760 bytes or an index over 9; then noskip
    ((λ bx. index 760 9 16 bx 15 16) takes 15 else 12) ∷
    ((λ bh. index 760 9 17 15 0 bh) needs 1 else 12) ∷
    ((λ bh. index 760 9 17 15 0 bh) takes 16 else 12) ∷
    ((λ by. index 760 9 16 15 by 16) takes 15 else 12) ∷
    ((λ rows. index rows 9 16 15 15 16) needs 760 else 5) ∷
    ((λ at. index 760 at 16 15 15 16) takes 9 else 5) ∷
    ((λ noskip. index 760 9 noskip 15 15 16) needs 16 else 9) ∷
    (index 0 10 0 16 0 0 gives 12) ∷
    (index 0 10 0 15 15 16 gives 5) ∷
    -- states: of another operation or of none
    (handed Luma (number_of Luma) gives 0) ∷
    (handed User (number_of User) gives 0) ∷
    (handed Pretrained (number_of Pretrained) gives 0) ∷
    (handed Chroma (number_of Chroma) gives 0) ∷
    (handed User (number_of Luma) gives 13) ∷
    (handed User (number_of Pretrained) gives 13) ∷
    (handed Pretrained (number_of User) gives 13) ∷
    (handed Luma (number_of Chroma) gives 13) ∷
    (handed Chroma (number_of Luma) gives 13) ∷
    (handed Luma 0 gives 13) ∷
    (handed User 0 gives 13) ∷
    (handed Pretrained 0 gives 13) ∷
    (handed Chroma 0 gives 13) ∷
    -- .. rows done over h; a row index over 9, the first and the last of ten; a next row over 8; of chroma either over 4
    (done Luma takes 4 else 13) ∷
    (done User takes 4 else 13) ∷
    (done Pretrained takes 4 else 13) ∷
    (done Chroma takes 4 else 13) ∷
    (row_index Luma 0 takes 9 else 13) ∷
    (row_index Luma 9 takes 9 else 13) ∷
    (row_index User 9 takes 9 else 13) ∷
    (row_index Pretrained 9 takes 9 else 13) ∷
    (row_index Chroma 0 takes 4 else 13) ∷
    (row_index Chroma 9 takes 4 else 13) ∷
    (next Luma takes 8 else 13) ∷
    (next User takes 8 else 13) ∷
    (next Pretrained takes 8 else 13) ∷
    (next Chroma takes 4 else 13) ∷
    -- .. a kept class, the first and the last of sixteen, at the number of sets: three, and two where the third is not whole; others keep no classes
    (kept User 54 0 takes 2 else 13) ∷
    (kept User 54 15 takes 2 else 13) ∷
    (kept User 53 15 takes 1 else 13) ∷
    (kept Pretrained 39 0 takes 2 else 13) ∷
    (kept Pretrained 39 15 takes 2 else 13) ∷
    (kept Pretrained 38 15 takes 1 else 13) ∷
    (kept Luma 16 15 255 gives 0) ∷
    (kept Chroma 18 15 255 gives 0) ∷
    -- a whole plane: a side that is no multiple of 4 in 4 to 1,024, a unit size that is none in 4 to 64
    (whole 4 4 4 gives 0) ∷
    (whole 1024 1024 64 gives 0) ∷
    (whole 0 4 4 gives 15) ∷
    (whole 6 4 4 gives 15) ∷
    (whole 1028 4 4 gives 15) ∷
    (whole 4 0 4 gives 15) ∷
    (whole 4 6 4 gives 15) ∷
    (whole 4 1028 4 gives 15) ∷
    (whole 4 4 0 gives 15) ∷
    (whole 4 4 6 gives 15) ∷
    (whole 4 4 68 gives 15) ∷
    -- .. its bytes; its skip numbers, one for 64 columns; its filter; scratch of eight rows
    ((λ bytes. plane_status 12 8 4 bytes 2 16 96) needs 96 else 5) ∷
    ((λ numbers. plane_status 64 8 4 512 numbers 16 512) needs 2 else 9) ∷
    ((λ numbers. plane_status 68 8 4 544 numbers 16 544) needs 4 else 9) ∷
    ((λ taps. plane_status 12 8 4 96 2 taps 96) needs 16 else 10) ∷
    ((λ taps. plane_status 12 8 4 96 2 taps 96) takes 16 else 10) ∷
    ((λ bytes. plane_status 12 8 4 96 2 16 bytes) needs 96 else 16) ∷
    -- .. everything wrong from one of them on
    (plane_status 6 8 4 0 0 0 0 gives 15) ∷
    (plane_status 12 8 4 0 0 0 0 gives 5) ∷
    (plane_status 12 8 4 96 0 0 0 gives 9) ∷
    (plane_status 12 8 4 96 2 0 0 gives 10) ∷
    (plane_status 12 8 4 96 2 16 0 gives 16) ∷
    []

limits : agree table ≡ true
unfolding agree table count first none ample numbers lengths status zeros lists by_lists small luma unit beside enough sides plane luma_stride sampled left_list above below masks filters listed mapped starting ending two luma_plane luma_above luma_below wrong_from shorter index shape handed done row_index next kept unit_status first_pass class_status whole plane_status
limits = refl
