-- What the reference makes of random units, beside what the definition says: every sample of each unit's rectangle.
-- Proofs that antt computes. Made by `compare vectors 1 3`.
use Rattle.std.specs.Prelude.{Bool, true, false, ◌&&◌, List, [], ◌∷◌, ◌≡◌, refl, ℕ, zero, suc, ◌+◌, ◌*◌, ◌/◌, ◌%◌, eqb, ℤ, pos, negsuc}
use Rattle.definition.specs.declared.Operation.{Operation}
use Rattle.definition.specs.declared.Operation.TheVariants.{Luma, User, Pretrained, Chroma}
use Rattle.definition.specs.declared.Given.{Given}
use Rattle.definition.specs.Numbers.{sum_z, sum_n}
use Rattle.definition.specs.Rows.{tab}
use Rattle.definition.specs.Sample.{rounded}
use Rattle.definition.specs.ClassIndex.{term, bin, feature, skip_sum, bins_of, index_of}
use Rattle.definition.specs.Units.{Lent, sample_at, luma_at, class_of, final_sample}
use Rattle.definition.specs.Planes.{padded_in, skip_bit, final_in, across, unit_number, plane_after, piece_at, plane_pieces}

record Vector : Type 0 where
  op : Operation
  given : Given
  lent : Lent
  plane : List ℕ
  -- the rectangle after the unit was restored, row by row
  expected : List ℕ

-- the map that the reference is run with, from entry k on and whole
map_from : ℕ → ℕ → List ℕ
map_from zero k = []
map_from (suc n) k = (k * 37 + k / 64) % 64 ∷ map_from n (suc k)

class_map : List ℕ
class_map = map_from 4096 0

same : List ℕ → List ℕ → Bool
same [] [] = true
same [] (y ∷ ys) = false
same (x ∷ xs) [] = false
same (x ∷ xs) (y ∷ ys) = eqb x y && same xs ys

final : Operation → Given → Lent → List ℕ → List ℕ
final op g l plane = tab (g.w * g.h) (λ i. final_sample g l plane op (i / g.w) (i % g.w))

holds : Vector → Bool
holds v = same (final v.op v.given v.lent v.plane) v.expected

unit0 : Vector
unit0 = record {
  op = Luma;
  given = record {
    w = 8;
    h = 4;
    edges = 12;
    stride = 9;
    luma_stride = 0;
    off = 1;
    top_off = 1;
    bottom_off = 1;
    luma_off = 1;
    luma_top_off = 4;
    luma_bottom_off = 3;
    ss_hor = 0;
    ss_ver = 0;
    kind = 0;
  };
  lent = record {
    left = [];
    top = 255 ∷ 0 ∷ 0 ∷ 0 ∷ 255 ∷ 0 ∷ 255 ∷ 255 ∷ 255 ∷ 0 ∷ 255 ∷ 0 ∷ 255 ∷ 0 ∷ 255 ∷ 0 ∷ 255 ∷ 0 ∷ 255 ∷ [];
    bottom = 1 ∷ 148 ∷ 58 ∷ 71 ∷ 161 ∷ 251 ∷ 149 ∷ 76 ∷ 41 ∷ 79 ∷ 205 ∷ 197 ∷ 223 ∷ 190 ∷ 248 ∷ 32 ∷ 98 ∷ 28 ∷ 42 ∷ 129 ∷ 233 ∷ [];
    luma_plane = [];
    luma_top = [];
    luma_bottom = [];
    skip = 272 ∷ 35589 ∷ 33793 ∷ 2 ∷ [];
    noskip = [];
    map = [];
    subclass = [];
    filters = negsuc 39 ∷ negsuc 3 ∷ pos 20 ∷ pos 31 ∷ pos 69 ∷ pos 66 ∷ negsuc 70 ∷ pos 59 ∷ pos 34 ∷ negsuc 121 ∷ negsuc 56 ∷ pos 127 ∷ pos 0 ∷ pos 97 ∷
        negsuc 117 ∷ negsuc 27 ∷ [];
    q = pos 0;
  };
  plane = 179 ∷ 183 ∷ 181 ∷ 176 ∷ 175 ∷ 186 ∷ 184 ∷ 174 ∷ 184 ∷ 182 ∷ 178 ∷ 181 ∷ 179 ∷ 179 ∷ 182 ∷ 184 ∷ 185 ∷ 181 ∷ 184 ∷ 179 ∷ 176 ∷ 185 ∷ 186 ∷ 179 ∷ 178 ∷
      181 ∷ 181 ∷ 180 ∷ 174 ∷ 182 ∷ 178 ∷ 175 ∷ 180 ∷ 184 ∷ 178 ∷ 178 ∷ [];
  expected = 255 ∷ 255 ∷ 255 ∷ 255 ∷ 126 ∷ 255 ∷ 47 ∷ 255 ∷ 255 ∷ 255 ∷ 255 ∷ 255 ∷ 255 ∷ 255 ∷ 255 ∷ 255 ∷ 148 ∷ 117 ∷ 162 ∷ 147 ∷ 255 ∷ 255 ∷ 255 ∷ 255 ∷ 63 ∷
      67 ∷ 255 ∷ 255 ∷ 255 ∷ 255 ∷ 188 ∷ 255 ∷ [];
}

unit0-holds : holds unit0 ≡ true
unfolding holds final same map_from class_map unit0 sum_z sum_n rounded term bin feature skip_sum bins_of index_of sample_at luma_at class_of final_sample
unit0-holds = refl

unit1 : Vector
unit1 = record {
  op = User;
  given = record {
    w = 8;
    h = 4;
    edges = 141;
    stride = 10;
    luma_stride = 6;
    off = 4;
    top_off = 5;
    bottom_off = 6;
    luma_off = 6;
    luma_top_off = 8;
    luma_bottom_off = 4;
    ss_hor = 0;
    ss_ver = 0;
    kind = 0;
  };
  lent = record {
    left = 243 ∷ 236 ∷ 238 ∷ 243 ∷ 237 ∷ 238 ∷ 247 ∷ 246 ∷ 243 ∷ 242 ∷ 238 ∷ 245 ∷ 243 ∷ 236 ∷ 243 ∷ 248 ∷ 240 ∷ 236 ∷ 244 ∷ 244 ∷ 235 ∷ 247 ∷ 235 ∷ 238 ∷ [];
    top = 239 ∷ 236 ∷ 236 ∷ 237 ∷ 240 ∷ 242 ∷ 242 ∷ 243 ∷ 238 ∷ 247 ∷ 238 ∷ 234 ∷ 245 ∷ 247 ∷ 239 ∷ 242 ∷ 238 ∷ 237 ∷ 248 ∷ 236 ∷ 245 ∷ 240 ∷ 247 ∷ 241 ∷ 247 ∷
        236 ∷ [];
    bottom = 242 ∷ 242 ∷ 235 ∷ 246 ∷ 246 ∷ 237 ∷ 246 ∷ 248 ∷ 245 ∷ 244 ∷ 240 ∷ 235 ∷ 248 ∷ 243 ∷ 244 ∷ 247 ∷ 240 ∷ 242 ∷ 246 ∷ 247 ∷ 242 ∷ 236 ∷ 246 ∷ 247 ∷ 238 ∷
        240 ∷ 237 ∷ [];
    luma_plane = [];
    luma_top = [];
    luma_bottom = [];
    skip = 0 ∷ 0 ∷ 0 ∷ 0 ∷ [];
    noskip = 16392 ∷ [];
    map = class_map;
    subclass = 1 ∷ 4 ∷ 1 ∷ 3 ∷ 4 ∷ 4 ∷ 1 ∷ 3 ∷ 3 ∷ 1 ∷ 0 ∷ 3 ∷ 2 ∷ 2 ∷ 0 ∷ 3 ∷ 4 ∷ 4 ∷ 0 ∷ 2 ∷ 0 ∷ 3 ∷ 4 ∷ 4 ∷ 1 ∷ 3 ∷ 1 ∷ 3 ∷ 2 ∷ 0 ∷ 1 ∷ 2 ∷ 4 ∷ 0 ∷ 2 ∷ 4 ∷ 1 ∷
        2 ∷ 2 ∷ 1 ∷ 1 ∷ 0 ∷ 2 ∷ 2 ∷ 0 ∷ 0 ∷ 2 ∷ 1 ∷ 1 ∷ 2 ∷ 4 ∷ 3 ∷ 1 ∷ 3 ∷ 0 ∷ 1 ∷ 0 ∷ 0 ∷ 3 ∷ 2 ∷ 3 ∷ 2 ∷ 3 ∷ 3 ∷ [];
    filters = negsuc 15 ∷ negsuc 17 ∷ pos 0 ∷ pos 1 ∷ negsuc 14 ∷ pos 6 ∷ pos 14 ∷ pos 12 ∷ pos 5 ∷ pos 12 ∷ negsuc 7 ∷ negsuc 5 ∷ negsuc 17 ∷ negsuc 13 ∷
        negsuc 7 ∷ pos 18 ∷ negsuc 16 ∷ negsuc 8 ∷ negsuc 127 ∷ pos 127 ∷ negsuc 127 ∷ pos 0 ∷ pos 127 ∷ pos 0 ∷ pos 127 ∷ negsuc 127 ∷ negsuc 127 ∷
        negsuc 127 ∷ pos 127 ∷ pos 0 ∷ pos 127 ∷ pos 127 ∷ pos 0 ∷ negsuc 127 ∷ pos 127 ∷ pos 127 ∷ pos 74 ∷ negsuc 21 ∷ negsuc 8 ∷ pos 95 ∷ negsuc 80 ∷
        pos 87 ∷ pos 73 ∷ pos 21 ∷ pos 78 ∷ pos 119 ∷ pos 19 ∷ pos 74 ∷ negsuc 82 ∷ pos 73 ∷ negsuc 87 ∷ negsuc 71 ∷ negsuc 102 ∷ pos 71 ∷ pos 127 ∷
        pos 127 ∷ negsuc 127 ∷ negsuc 127 ∷ pos 0 ∷ negsuc 127 ∷ negsuc 127 ∷ negsuc 127 ∷ pos 0 ∷ negsuc 127 ∷ pos 127 ∷ pos 127 ∷ pos 127 ∷ negsuc 127 ∷
        negsuc 127 ∷ pos 127 ∷ negsuc 127 ∷ negsuc 127 ∷ pos 0 ∷ pos 1 ∷ pos 1 ∷ negsuc 2 ∷ pos 1 ∷ pos 3 ∷ pos 0 ∷ pos 0 ∷ negsuc 0 ∷ pos 0 ∷ pos 4 ∷
        pos 0 ∷ pos 0 ∷ pos 0 ∷ negsuc 3 ∷ negsuc 2 ∷ pos 0 ∷ negsuc 1 ∷ [];
    q = pos 5068;
  };
  plane = 234 ∷ 244 ∷ 244 ∷ 245 ∷ 246 ∷ 238 ∷ 246 ∷ 242 ∷ 234 ∷ 235 ∷ 242 ∷ 240 ∷ 237 ∷ 238 ∷ 237 ∷ 234 ∷ 240 ∷ 240 ∷ 247 ∷ 242 ∷ 235 ∷ 247 ∷ 247 ∷ 247 ∷ 238 ∷
      238 ∷ 243 ∷ 244 ∷ 247 ∷ 236 ∷ 248 ∷ 242 ∷ 241 ∷ 241 ∷ 243 ∷ 246 ∷ 242 ∷ 247 ∷ 239 ∷ 240 ∷ 243 ∷ 235 ∷ 247 ∷ [];
  expected = 208 ∷ 242 ∷ 208 ∷ 232 ∷ 255 ∷ 255 ∷ 239 ∷ 245 ∷ 255 ∷ 255 ∷ 255 ∷ 208 ∷ 212 ∷ 238 ∷ 255 ∷ 207 ∷ 234 ∷ 255 ∷ 234 ∷ 229 ∷ 209 ∷ 255 ∷ 209 ∷ 246 ∷ 230 ∷
      228 ∷ 253 ∷ 207 ∷ 255 ∷ 233 ∷ 231 ∷ 249 ∷ [];
}

unit1-holds : holds unit1 ≡ true
unfolding holds final same map_from class_map unit1 sum_z sum_n rounded term bin feature skip_sum bins_of index_of sample_at luma_at class_of final_sample
unit1-holds = refl

unit2 : Vector
unit2 = record {
  op = Pretrained;
  given = record {
    w = 4;
    h = 8;
    edges = 14;
    stride = 8;
    luma_stride = 6;
    off = 2;
    top_off = 2;
    bottom_off = 1;
    luma_off = 2;
    luma_top_off = 4;
    luma_bottom_off = 5;
    ss_hor = 0;
    ss_ver = 0;
    kind = 0;
  };
  lent = record {
    left = [];
    top = 226 ∷ 221 ∷ 220 ∷ 212 ∷ 214 ∷ 224 ∷ 221 ∷ 218 ∷ 227 ∷ 207 ∷ 217 ∷ 207 ∷ 212 ∷ 213 ∷ 227 ∷ 223 ∷ 218 ∷ 227 ∷ [];
    bottom = 222 ∷ 215 ∷ 212 ∷ 214 ∷ 213 ∷ 219 ∷ 224 ∷ 224 ∷ 225 ∷ 214 ∷ 219 ∷ 213 ∷ 221 ∷ 217 ∷ 210 ∷ 223 ∷ 222 ∷ [];
    luma_plane = [];
    luma_top = [];
    luma_bottom = [];
    skip = 0 ∷ 0 ∷ 0 ∷ 0 ∷ 0 ∷ 0 ∷ 0 ∷ 0 ∷ [];
    noskip = 0 ∷ 0 ∷ [];
    map = class_map;
    subclass = 0 ∷ 1 ∷ 0 ∷ 1 ∷ 1 ∷ 0 ∷ 1 ∷ 0 ∷ 0 ∷ 1 ∷ 1 ∷ 1 ∷ 0 ∷ 1 ∷ 0 ∷ 1 ∷ 0 ∷ 1 ∷ 1 ∷ 0 ∷ 0 ∷ 0 ∷ 1 ∷ 0 ∷ 1 ∷ 0 ∷ 0 ∷ 1 ∷ 0 ∷ 0 ∷ 0 ∷ 1 ∷ 1 ∷ 0 ∷ 0 ∷ 0 ∷ 0 ∷
        1 ∷ 0 ∷ 1 ∷ 1 ∷ 1 ∷ 0 ∷ 1 ∷ 1 ∷ 1 ∷ 0 ∷ 0 ∷ 1 ∷ 1 ∷ 0 ∷ 0 ∷ 1 ∷ 0 ∷ 1 ∷ 0 ∷ 1 ∷ 0 ∷ 1 ∷ 0 ∷ 1 ∷ 1 ∷ 0 ∷ 1 ∷ [];
    filters = pos 0 ∷ pos 1 ∷ pos 0 ∷ pos 0 ∷ pos 1 ∷ pos 0 ∷ pos 0 ∷ negsuc 0 ∷ pos 0 ∷ pos 0 ∷ pos 1 ∷ pos 1 ∷ pos 0 ∷ pos 127 ∷ pos 0 ∷ pos 127 ∷ negsuc 127 ∷
        negsuc 127 ∷ pos 0 ∷ negsuc 127 ∷ negsuc 127 ∷ pos 0 ∷ negsuc 127 ∷ pos 127 ∷ pos 127 ∷ negsuc 127 ∷ [];
    q = negsuc 172;
  };
  plane = 227 ∷ 227 ∷ 207 ∷ 208 ∷ 219 ∷ 223 ∷ 215 ∷ 208 ∷ 223 ∷ 221 ∷ 210 ∷ 213 ∷ 207 ∷ 225 ∷ 208 ∷ 208 ∷ 210 ∷ 222 ∷ 207 ∷ 207 ∷ 217 ∷ 220 ∷ 218 ∷ 223 ∷ 213 ∷
      226 ∷ 214 ∷ 217 ∷ 215 ∷ 226 ∷ 215 ∷ 207 ∷ 217 ∷ 219 ∷ 207 ∷ 211 ∷ 217 ∷ 224 ∷ 217 ∷ 222 ∷ 220 ∷ 224 ∷ 221 ∷ 226 ∷ 213 ∷ 210 ∷ 223 ∷ 208 ∷ 222 ∷ 212 ∷
      222 ∷ 224 ∷ 225 ∷ 216 ∷ 223 ∷ 217 ∷ 214 ∷ 226 ∷ 217 ∷ 221 ∷ 223 ∷ 214 ∷ 209 ∷ 218 ∷ 225 ∷ 219 ∷ [];
  expected = 0 ∷ 0 ∷ 0 ∷ 0 ∷ 0 ∷ 0 ∷ 0 ∷ 0 ∷ 0 ∷ 0 ∷ 0 ∷ 0 ∷ 0 ∷ 0 ∷ 0 ∷ 0 ∷ 10 ∷ 10 ∷ 10 ∷ 10 ∷ 10 ∷ 10 ∷ 10 ∷ 10 ∷ 10 ∷ 10 ∷ 10 ∷ 10 ∷ 10 ∷ 10 ∷ 10 ∷ 10 ∷ [];
}

unit2-holds : holds unit2 ≡ true
unfolding holds final same map_from class_map unit2 sum_z sum_n rounded term bin feature skip_sum bins_of index_of sample_at luma_at class_of final_sample
unit2-holds = refl

unit3 : Vector
unit3 = record {
  op = Chroma;
  given = record {
    w = 4;
    h = 8;
    edges = 207;
    stride = 6;
    luma_stride = 9;
    off = 2;
    top_off = 3;
    bottom_off = 4;
    luma_off = 5;
    luma_top_off = 5;
    luma_bottom_off = 6;
    ss_hor = 0;
    ss_ver = 0;
    kind = 0;
  };
  lent = record {
    left = 173 ∷ 98 ∷ 55 ∷ 44 ∷ 243 ∷ 70 ∷ 127 ∷ 32 ∷ 181 ∷ 202 ∷ 61 ∷ 153 ∷ 67 ∷ 122 ∷ 119 ∷ 235 ∷ 236 ∷ 107 ∷ 220 ∷ 244 ∷ 117 ∷ 48 ∷ 73 ∷ 158 ∷ 214 ∷ 159 ∷
        135 ∷ 1 ∷ 131 ∷ 64 ∷ 235 ∷ 180 ∷ 104 ∷ 195 ∷ 213 ∷ 198 ∷ 195 ∷ 55 ∷ 209 ∷ 201 ∷ 15 ∷ 171 ∷ 191 ∷ 131 ∷ 126 ∷ 73 ∷ 28 ∷ 164 ∷ [];
    top = 255 ∷ 0 ∷ 255 ∷ 0 ∷ 255 ∷ 0 ∷ 255 ∷ 0 ∷ 255 ∷ 255 ∷ 0 ∷ 0 ∷ 0 ∷ 255 ∷ 0 ∷ 255 ∷ 255 ∷ 0 ∷ [];
    bottom = 118 ∷ 19 ∷ 98 ∷ 144 ∷ 120 ∷ 64 ∷ 29 ∷ 245 ∷ 15 ∷ 226 ∷ 160 ∷ 7 ∷ 39 ∷ 32 ∷ 30 ∷ 128 ∷ 219 ∷ 21 ∷ 219 ∷ [];
    luma_plane = 190 ∷ 213 ∷ 146 ∷ 148 ∷ 74 ∷ 144 ∷ 80 ∷ 45 ∷ 238 ∷ 214 ∷ 25 ∷ 175 ∷ 138 ∷ 143 ∷ 69 ∷ 232 ∷ 71 ∷ 101 ∷ 96 ∷ 191 ∷ 161 ∷ 104 ∷ 77 ∷ 175 ∷ 239 ∷ 80 ∷
        98 ∷ 201 ∷ 13 ∷ 180 ∷ 16 ∷ 78 ∷ 245 ∷ 207 ∷ 192 ∷ 137 ∷ 225 ∷ 140 ∷ 13 ∷ 101 ∷ 182 ∷ 165 ∷ 202 ∷ 254 ∷ 199 ∷ 46 ∷ 52 ∷ 149 ∷ 32 ∷ 107 ∷ 172 ∷ 72 ∷
        114 ∷ 20 ∷ 146 ∷ 158 ∷ 148 ∷ 44 ∷ 168 ∷ 82 ∷ 237 ∷ 231 ∷ 132 ∷ 16 ∷ 51 ∷ 26 ∷ 45 ∷ 156 ∷ 80 ∷ 11 ∷ 220 ∷ 28 ∷ 1 ∷ 198 ∷ 250 ∷ 174 ∷ 206 ∷ [];
    luma_top = 188 ∷ 189 ∷ 193 ∷ 194 ∷ 195 ∷ 188 ∷ 193 ∷ 191 ∷ 192 ∷ 187 ∷ 192 ∷ 190 ∷ 192 ∷ 195 ∷ 191 ∷ 197 ∷ 191 ∷ 191 ∷ 187 ∷ 187 ∷ 198 ∷ 194 ∷ [];
    luma_bottom = 44 ∷ 40 ∷ 46 ∷ 39 ∷ 49 ∷ 50 ∷ 50 ∷ 49 ∷ 39 ∷ 48 ∷ 50 ∷ 48 ∷ 49 ∷ 42 ∷ 40 ∷ 40 ∷ 50 ∷ 44 ∷ 45 ∷ 48 ∷ 47 ∷ 39 ∷ 48 ∷ [];
    skip = 0 ∷ 0 ∷ 0 ∷ 0 ∷ 0 ∷ 0 ∷ 0 ∷ 0 ∷ [];
    noskip = [];
    map = [];
    subclass = [];
    filters = pos 0 ∷ pos 127 ∷ pos 0 ∷ pos 0 ∷ negsuc 127 ∷ negsuc 127 ∷ pos 127 ∷ pos 127 ∷ pos 0 ∷ negsuc 127 ∷ pos 0 ∷ pos 127 ∷ pos 0 ∷ pos 0 ∷ negsuc 127 ∷
        pos 127 ∷ pos 127 ∷ pos 0 ∷ [];
    q = pos 0;
  };
  plane = 0 ∷ 255 ∷ 0 ∷ 255 ∷ 255 ∷ 0 ∷ 0 ∷ 0 ∷ 255 ∷ 0 ∷ 255 ∷ 0 ∷ 255 ∷ 0 ∷ 255 ∷ 0 ∷ 0 ∷ 255 ∷ 0 ∷ 0 ∷ 255 ∷ 255 ∷ 0 ∷ 0 ∷ 0 ∷ 255 ∷ 0 ∷ 255 ∷ 255 ∷ 255 ∷
      0 ∷ 255 ∷ 0 ∷ 0 ∷ 255 ∷ 255 ∷ 0 ∷ 0 ∷ 0 ∷ 255 ∷ 0 ∷ 0 ∷ 0 ∷ 0 ∷ 255 ∷ 0 ∷ 255 ∷ 255 ∷ 0 ∷ 0 ∷ [];
  expected = 0 ∷ 255 ∷ 255 ∷ 0 ∷ 152 ∷ 0 ∷ 113 ∷ 255 ∷ 255 ∷ 0 ∷ 0 ∷ 255 ∷ 255 ∷ 255 ∷ 0 ∷ 0 ∷ 0 ∷ 255 ∷ 255 ∷ 0 ∷ 0 ∷ 0 ∷ 255 ∷ 255 ∷ 255 ∷ 31 ∷ 0 ∷ 0 ∷ 255 ∷
      255 ∷ 255 ∷ 255 ∷ [];
}

unit3-holds : holds unit3 ≡ true
unfolding holds final same map_from class_map unit3 sum_z sum_n rounded term bin feature skip_sum bins_of index_of sample_at luma_at class_of final_sample
unit3-holds = refl

unit4 : Vector
unit4 = record {
  op = Chroma;
  given = record {
    w = 4;
    h = 8;
    edges = 12;
    stride = 6;
    luma_stride = 12;
    off = 1;
    top_off = 3;
    bottom_off = 1;
    luma_off = 3;
    luma_top_off = 3;
    luma_bottom_off = 3;
    ss_hor = 1;
    ss_ver = 0;
    kind = 1;
  };
  lent = record {
    left = [];
    top = 193 ∷ 215 ∷ 220 ∷ 187 ∷ 255 ∷ 255 ∷ 153 ∷ 162 ∷ 255 ∷ 255 ∷ 255 ∷ 255 ∷ 148 ∷ [];
    bottom = 0 ∷ 0 ∷ 255 ∷ 255 ∷ 255 ∷ 0 ∷ 255 ∷ 255 ∷ 0 ∷ 0 ∷ 255 ∷ [];
    luma_plane = 255 ∷ 0 ∷ 255 ∷ 0 ∷ 255 ∷ 255 ∷ 255 ∷ 0 ∷ 255 ∷ 0 ∷ 0 ∷ 0 ∷ 0 ∷ 255 ∷ 255 ∷ 255 ∷ 0 ∷ 0 ∷ 255 ∷ 255 ∷ 255 ∷ 255 ∷ 255 ∷ 255 ∷ 0 ∷ 255 ∷ 255 ∷ 255 ∷
        0 ∷ 255 ∷ 255 ∷ 0 ∷ 255 ∷ 255 ∷ 255 ∷ 0 ∷ 0 ∷ 0 ∷ 0 ∷ 0 ∷ 255 ∷ 0 ∷ 0 ∷ 255 ∷ 0 ∷ 0 ∷ 255 ∷ 0 ∷ 0 ∷ 255 ∷ 255 ∷ 0 ∷ 255 ∷ 255 ∷ 255 ∷ 255 ∷ 255 ∷ 0 ∷
        255 ∷ 0 ∷ 0 ∷ 255 ∷ 0 ∷ 255 ∷ 255 ∷ 255 ∷ 255 ∷ 255 ∷ 255 ∷ 255 ∷ 255 ∷ 0 ∷ 255 ∷ 0 ∷ 255 ∷ 0 ∷ 255 ∷ 0 ∷ 0 ∷ 0 ∷ 255 ∷ 255 ∷ 0 ∷ 255 ∷ 0 ∷ 255 ∷ 0 ∷
        0 ∷ 255 ∷ 255 ∷ 255 ∷ 255 ∷ 0 ∷ 0 ∷ 255 ∷ 0 ∷ [];
    luma_top = 0 ∷ 0 ∷ 4 ∷ 5 ∷ 0 ∷ 6 ∷ 1 ∷ 3 ∷ 1 ∷ 5 ∷ 4 ∷ 4 ∷ 0 ∷ 1 ∷ 0 ∷ 5 ∷ 1 ∷ 5 ∷ 4 ∷ 3 ∷ 0 ∷ 1 ∷ 5 ∷ 6 ∷ 6 ∷ 0 ∷ [];
    luma_bottom = 235 ∷ 232 ∷ 233 ∷ 239 ∷ 233 ∷ 235 ∷ 231 ∷ 237 ∷ 242 ∷ 231 ∷ 242 ∷ 230 ∷ 235 ∷ 239 ∷ 240 ∷ 241 ∷ 240 ∷ 240 ∷ 231 ∷ 234 ∷ 238 ∷ 233 ∷ 231 ∷ 233 ∷ 233 ∷
        233 ∷ [];
    skip = 45604 ∷ 8704 ∷ 576 ∷ 32888 ∷ 3072 ∷ 10881 ∷ 100 ∷ 24738 ∷ [];
    noskip = [];
    map = [];
    subclass = [];
    filters = negsuc 1 ∷ negsuc 19 ∷ negsuc 13 ∷ negsuc 13 ∷ pos 13 ∷ negsuc 18 ∷ negsuc 10 ∷ pos 20 ∷ negsuc 2 ∷ pos 13 ∷ pos 16 ∷ pos 18 ∷ pos 7 ∷ pos 15 ∷
        negsuc 9 ∷ pos 14 ∷ negsuc 17 ∷ pos 0 ∷ [];
    q = pos 0;
  };
  plane = 255 ∷ 255 ∷ 255 ∷ 0 ∷ 255 ∷ 255 ∷ 0 ∷ 255 ∷ 0 ∷ 255 ∷ 255 ∷ 0 ∷ 255 ∷ 255 ∷ 0 ∷ 0 ∷ 255 ∷ 255 ∷ 0 ∷ 255 ∷ 255 ∷ 255 ∷ 255 ∷ 0 ∷ 255 ∷ 0 ∷ 0 ∷ 255 ∷
      255 ∷ 255 ∷ 0 ∷ 0 ∷ 0 ∷ 255 ∷ 0 ∷ 0 ∷ 255 ∷ 255 ∷ 0 ∷ 0 ∷ 0 ∷ 0 ∷ 0 ∷ 255 ∷ 0 ∷ 255 ∷ 255 ∷ [];
  expected = 255 ∷ 196 ∷ 0 ∷ 255 ∷ 246 ∷ 0 ∷ 245 ∷ 210 ∷ 255 ∷ 0 ∷ 0 ∷ 255 ∷ 255 ∷ 255 ∷ 255 ∷ 255 ∷ 0 ∷ 0 ∷ 255 ∷ 255 ∷ 0 ∷ 0 ∷ 255 ∷ 0 ∷ 255 ∷ 0 ∷ 43 ∷ 0 ∷
      255 ∷ 0 ∷ 255 ∷ 255 ∷ [];
}

unit4-holds : holds unit4 ≡ true
unfolding holds final same map_from class_map unit4 sum_z sum_n rounded term bin feature skip_sum bins_of index_of sample_at luma_at class_of final_sample
unit4-holds = refl

unit5 : Vector
unit5 = record {
  op = Chroma;
  given = record {
    w = 8;
    h = 4;
    edges = 13;
    stride = 9;
    luma_stride = 21;
    off = 3;
    top_off = 2;
    bottom_off = 5;
    luma_off = 5;
    luma_top_off = 5;
    luma_bottom_off = 4;
    ss_hor = 1;
    ss_ver = 1;
    kind = 0;
  };
  lent = record {
    left = 51 ∷ 58 ∷ 54 ∷ 58 ∷ 53 ∷ 58 ∷ 49 ∷ 55 ∷ 50 ∷ 50 ∷ 53 ∷ 50 ∷ 48 ∷ 54 ∷ 52 ∷ 53 ∷ 50 ∷ 56 ∷ 59 ∷ 57 ∷ 58 ∷ 51 ∷ 53 ∷ 52 ∷ [];
    top = 67 ∷ 68 ∷ 52 ∷ 25 ∷ 22 ∷ 0 ∷ 0 ∷ 71 ∷ 78 ∷ 16 ∷ 75 ∷ 26 ∷ 13 ∷ 90 ∷ 0 ∷ 11 ∷ 0 ∷ 6 ∷ 0 ∷ 21 ∷ 0 ∷ 0 ∷ [];
    bottom = 255 ∷ 0 ∷ 0 ∷ 255 ∷ 255 ∷ 255 ∷ 0 ∷ 255 ∷ 0 ∷ 255 ∷ 255 ∷ 0 ∷ 0 ∷ 0 ∷ 0 ∷ 255 ∷ 255 ∷ 0 ∷ 0 ∷ 255 ∷ 0 ∷ 255 ∷ [];
    luma_plane = 0 ∷ 0 ∷ 255 ∷ 255 ∷ 0 ∷ 255 ∷ 255 ∷ 255 ∷ 0 ∷ 0 ∷ 0 ∷ 0 ∷ 0 ∷ 0 ∷ 255 ∷ 0 ∷ 255 ∷ 0 ∷ 0 ∷ 255 ∷ 255 ∷ 255 ∷ 255 ∷ 0 ∷ 0 ∷ 0 ∷ 0 ∷ 0 ∷ 255 ∷ 0 ∷ 255 ∷
        255 ∷ 0 ∷ 0 ∷ 0 ∷ 255 ∷ 255 ∷ 255 ∷ 0 ∷ 0 ∷ 0 ∷ 0 ∷ 0 ∷ 255 ∷ 0 ∷ 255 ∷ 255 ∷ 0 ∷ 0 ∷ 255 ∷ 0 ∷ 0 ∷ 255 ∷ 255 ∷ 0 ∷ 0 ∷ 0 ∷ 255 ∷ 255 ∷ 255 ∷ 255 ∷
        0 ∷ 255 ∷ 255 ∷ 0 ∷ 255 ∷ 0 ∷ 255 ∷ 0 ∷ 255 ∷ 255 ∷ 0 ∷ 0 ∷ 255 ∷ 255 ∷ 255 ∷ 0 ∷ 0 ∷ 255 ∷ 255 ∷ 0 ∷ 0 ∷ 0 ∷ 0 ∷ 0 ∷ 0 ∷ 0 ∷ 0 ∷ 255 ∷ 255 ∷ 255 ∷
        0 ∷ 255 ∷ 255 ∷ 0 ∷ 255 ∷ 0 ∷ 255 ∷ 255 ∷ 255 ∷ 0 ∷ 255 ∷ 255 ∷ 0 ∷ 0 ∷ 255 ∷ 255 ∷ 0 ∷ 0 ∷ 255 ∷ 0 ∷ 0 ∷ 255 ∷ 255 ∷ 0 ∷ 255 ∷ 255 ∷ 255 ∷ 0 ∷ 255 ∷
        255 ∷ 255 ∷ 0 ∷ 255 ∷ 255 ∷ 255 ∷ 0 ∷ 255 ∷ 255 ∷ 255 ∷ 0 ∷ 0 ∷ 0 ∷ 255 ∷ 255 ∷ 0 ∷ 255 ∷ 255 ∷ 0 ∷ 0 ∷ 255 ∷ 0 ∷ 0 ∷ 0 ∷ 0 ∷ 255 ∷ 255 ∷ 0 ∷ 0 ∷
        255 ∷ 0 ∷ 0 ∷ 0 ∷ 255 ∷ 0 ∷ 255 ∷ 0 ∷ 0 ∷ 255 ∷ 255 ∷ 0 ∷ 0 ∷ 0 ∷ 0 ∷ 255 ∷ 255 ∷ 0 ∷ 0 ∷ 0 ∷ [];
    luma_top = 108 ∷ 59 ∷ 115 ∷ 77 ∷ 176 ∷ 154 ∷ 167 ∷ 105 ∷ 85 ∷ 28 ∷ 142 ∷ 186 ∷ 66 ∷ 209 ∷ 215 ∷ 134 ∷ 177 ∷ 65 ∷ 100 ∷ 196 ∷ 157 ∷ 229 ∷ 177 ∷ 93 ∷ 177 ∷ 192 ∷
        84 ∷ 39 ∷ 6 ∷ 198 ∷ 155 ∷ 248 ∷ 228 ∷ 121 ∷ 11 ∷ 207 ∷ 38 ∷ 113 ∷ 94 ∷ 84 ∷ 169 ∷ 93 ∷ [];
    luma_bottom = 0 ∷ 255 ∷ 0 ∷ 0 ∷ 0 ∷ 0 ∷ 255 ∷ 0 ∷ 0 ∷ 255 ∷ 255 ∷ 255 ∷ 0 ∷ 0 ∷ 0 ∷ 0 ∷ 255 ∷ 255 ∷ 0 ∷ 255 ∷ 255 ∷ 255 ∷ 0 ∷ 0 ∷ 0 ∷ 0 ∷ 0 ∷ 255 ∷ 255 ∷ 255 ∷ 0 ∷
        0 ∷ 255 ∷ 0 ∷ 0 ∷ 255 ∷ 0 ∷ 255 ∷ 0 ∷ 255 ∷ 255 ∷ [];
    skip = 0 ∷ 0 ∷ 0 ∷ 0 ∷ [];
    noskip = [];
    map = [];
    subclass = [];
    filters = pos 30 ∷ negsuc 4 ∷ negsuc 86 ∷ negsuc 12 ∷ negsuc 105 ∷ pos 36 ∷ negsuc 126 ∷ negsuc 64 ∷ negsuc 0 ∷ pos 1 ∷ pos 29 ∷ negsuc 14 ∷ negsuc 97 ∷
        negsuc 27 ∷ pos 22 ∷ negsuc 49 ∷ pos 17 ∷ negsuc 118 ∷ [];
    q = pos 0;
  };
  plane = 124 ∷ 124 ∷ 156 ∷ 198 ∷ 209 ∷ 171 ∷ 213 ∷ 212 ∷ 148 ∷ 198 ∷ 198 ∷ 127 ∷ 163 ∷ 221 ∷ 153 ∷ 117 ∷ 120 ∷ 198 ∷ 111 ∷ 122 ∷ 154 ∷ 145 ∷ 164 ∷ 208 ∷ 210 ∷
      227 ∷ 221 ∷ 185 ∷ 192 ∷ 180 ∷ 201 ∷ 213 ∷ 144 ∷ 107 ∷ 163 ∷ 146 ∷ 197 ∷ 215 ∷ 197 ∷ [];
  expected = 255 ∷ 255 ∷ 255 ∷ 0 ∷ 255 ∷ 255 ∷ 14 ∷ 255 ∷ 95 ∷ 255 ∷ 255 ∷ 255 ∷ 0 ∷ 255 ∷ 173 ∷ 0 ∷ 195 ∷ 255 ∷ 253 ∷ 255 ∷ 255 ∷ 255 ∷ 255 ∷ 255 ∷ 255 ∷ 255 ∷
      0 ∷ 0 ∷ 174 ∷ 0 ∷ 255 ∷ 255 ∷ [];
}

unit5-holds : holds unit5 ≡ true
unfolding holds final same map_from class_map unit5 sum_z sum_n rounded term bin feature skip_sum bins_of index_of sample_at luma_at class_of final_sample
unit5-holds = refl

unit6 : Vector
unit6 = record {
  op = Chroma;
  given = record {
    w = 4;
    h = 8;
    edges = 14;
    stride = 6;
    luma_stride = 6;
    off = 2;
    top_off = 2;
    bottom_off = 1;
    luma_off = 1;
    luma_top_off = 3;
    luma_bottom_off = 4;
    ss_hor = 1;
    ss_ver = 1;
    kind = 1;
  };
  lent = record {
    left = [];
    top = 191 ∷ 211 ∷ 139 ∷ 160 ∷ 205 ∷ 135 ∷ 178 ∷ 133 ∷ 171 ∷ 115 ∷ 204 ∷ 94 ∷ 105 ∷ 134 ∷ 99 ∷ [];
    bottom = 51 ∷ 206 ∷ 145 ∷ 4 ∷ 159 ∷ 170 ∷ 220 ∷ 132 ∷ 232 ∷ 95 ∷ 89 ∷ 205 ∷ 122 ∷ [];
    luma_plane = 154 ∷ 210 ∷ 109 ∷ 141 ∷ 189 ∷ 177 ∷ 117 ∷ 107 ∷ 149 ∷ 125 ∷ 117 ∷ 151 ∷ 200 ∷ 200 ∷ 130 ∷ 192 ∷ 146 ∷ 181 ∷ 198 ∷ 190 ∷ 194 ∷ 127 ∷ 164 ∷ 181 ∷ 206 ∷
        126 ∷ 124 ∷ 149 ∷ 171 ∷ 150 ∷ 212 ∷ 119 ∷ 196 ∷ 170 ∷ 205 ∷ 174 ∷ 111 ∷ 124 ∷ 193 ∷ 214 ∷ 126 ∷ 116 ∷ 131 ∷ 211 ∷ 113 ∷ 128 ∷ 132 ∷ 111 ∷ 223 ∷ 149 ∷
        221 ∷ 107 ∷ 194 ∷ 218 ∷ 121 ∷ 171 ∷ 208 ∷ 120 ∷ 130 ∷ 129 ∷ 166 ∷ 135 ∷ 219 ∷ 184 ∷ 182 ∷ 132 ∷ 149 ∷ 212 ∷ 218 ∷ 196 ∷ 167 ∷ 144 ∷ 201 ∷ 205 ∷ 199 ∷
        117 ∷ 165 ∷ 195 ∷ 129 ∷ 146 ∷ 208 ∷ 119 ∷ 118 ∷ 225 ∷ 218 ∷ 206 ∷ 188 ∷ 171 ∷ 195 ∷ 208 ∷ 107 ∷ 144 ∷ 210 ∷ 217 ∷ 180 ∷ 126 ∷ 155 ∷ 190 ∷ 115 ∷ 150 ∷
        201 ∷ 140 ∷ 221 ∷ [];
    luma_top = 255 ∷ 255 ∷ 255 ∷ 0 ∷ 0 ∷ 255 ∷ 255 ∷ 0 ∷ 0 ∷ 255 ∷ 0 ∷ 0 ∷ 0 ∷ 0 ∷ 255 ∷ 0 ∷ 0 ∷ 255 ∷ 0 ∷ 0 ∷ 255 ∷ 255 ∷ [];
    luma_bottom = 0 ∷ 0 ∷ 37 ∷ 51 ∷ 60 ∷ 14 ∷ 0 ∷ 0 ∷ 0 ∷ 69 ∷ 57 ∷ 0 ∷ 0 ∷ 0 ∷ 30 ∷ 0 ∷ 69 ∷ 0 ∷ 0 ∷ 58 ∷ 0 ∷ 15 ∷ [];
    skip = 36878 ∷ 21386 ∷ 4224 ∷ 10640 ∷ 38016 ∷ 1552 ∷ 3138 ∷ 32776 ∷ [];
    noskip = [];
    map = [];
    subclass = [];
    filters = negsuc 18 ∷ pos 13 ∷ negsuc 12 ∷ negsuc 1 ∷ negsuc 5 ∷ pos 17 ∷ negsuc 16 ∷ pos 12 ∷ negsuc 3 ∷ pos 16 ∷ pos 12 ∷ pos 13 ∷ pos 15 ∷ negsuc 18 ∷
        negsuc 9 ∷ pos 17 ∷ pos 13 ∷ negsuc 10 ∷ [];
    q = pos 0;
  };
  plane = 69 ∷ 70 ∷ 69 ∷ 70 ∷ 76 ∷ 77 ∷ 67 ∷ 79 ∷ 73 ∷ 75 ∷ 68 ∷ 70 ∷ 73 ∷ 74 ∷ 73 ∷ 74 ∷ 78 ∷ 72 ∷ 75 ∷ 69 ∷ 73 ∷ 73 ∷ 71 ∷ 74 ∷ 73 ∷ 75 ∷ 71 ∷ 71 ∷ 76 ∷ 68 ∷
      77 ∷ 69 ∷ 69 ∷ 73 ∷ 72 ∷ 70 ∷ 76 ∷ 68 ∷ 72 ∷ 79 ∷ 69 ∷ 72 ∷ 68 ∷ 67 ∷ 77 ∷ 67 ∷ 76 ∷ 76 ∷ 76 ∷ 68 ∷ [];
  expected = 2 ∷ 39 ∷ 0 ∷ 52 ∷ 64 ∷ 72 ∷ 24 ∷ 73 ∷ 89 ∷ 69 ∷ 94 ∷ 81 ∷ 58 ∷ 74 ∷ 84 ∷ 58 ∷ 70 ∷ 74 ∷ 65 ∷ 54 ∷ 47 ∷ 73 ∷ 69 ∷ 43 ∷ 82 ∷ 91 ∷ 62 ∷ 87 ∷ 64 ∷ 88 ∷
      123 ∷ 84 ∷ [];
}

unit6-holds : holds unit6 ≡ true
unfolding holds final same map_from class_map unit6 sum_z sum_n rounded term bin feature skip_sum bins_of index_of sample_at luma_at class_of final_sample
unit6-holds = refl

unit7 : Vector
unit7 = record {
  op = Chroma;
  given = record {
    w = 4;
    h = 8;
    edges = 143;
    stride = 7;
    luma_stride = 17;
    off = 1;
    top_off = 3;
    bottom_off = 5;
    luma_off = 4;
    luma_top_off = 5;
    luma_bottom_off = 5;
    ss_hor = 1;
    ss_ver = 1;
    kind = 2;
  };
  lent = record {
    left = 69 ∷ 70 ∷ 42 ∷ 0 ∷ 71 ∷ 0 ∷ 9 ∷ 69 ∷ 18 ∷ 46 ∷ 41 ∷ 0 ∷ 0 ∷ 0 ∷ 0 ∷ 13 ∷ 0 ∷ 0 ∷ 12 ∷ 25 ∷ 11 ∷ 0 ∷ 22 ∷ 0 ∷ 0 ∷ 0 ∷ 1 ∷ 38 ∷ 0 ∷ 15 ∷ 45 ∷ 0 ∷ 40 ∷
        49 ∷ 0 ∷ 0 ∷ 30 ∷ 14 ∷ 32 ∷ 17 ∷ 0 ∷ 75 ∷ 58 ∷ 8 ∷ 63 ∷ 66 ∷ 0 ∷ 53 ∷ [];
    top = 255 ∷ 255 ∷ 255 ∷ 0 ∷ 0 ∷ 255 ∷ 0 ∷ 255 ∷ 0 ∷ 0 ∷ 0 ∷ 0 ∷ 0 ∷ 0 ∷ 0 ∷ 255 ∷ [];
    bottom = 255 ∷ 0 ∷ 0 ∷ 0 ∷ 255 ∷ 255 ∷ 255 ∷ 255 ∷ 255 ∷ 255 ∷ 0 ∷ 255 ∷ 255 ∷ 255 ∷ 0 ∷ 255 ∷ 255 ∷ 0 ∷ [];
    luma_plane = 214 ∷ 210 ∷ 204 ∷ 204 ∷ 203 ∷ 205 ∷ 214 ∷ 208 ∷ 209 ∷ 212 ∷ 210 ∷ 212 ∷ 211 ∷ 213 ∷ 205 ∷ 205 ∷ 207 ∷ 203 ∷ 211 ∷ 205 ∷ 211 ∷ 205 ∷ 212 ∷ 214 ∷ 208 ∷
        212 ∷ 205 ∷ 213 ∷ 211 ∷ 207 ∷ 212 ∷ 202 ∷ 214 ∷ 212 ∷ 205 ∷ 203 ∷ 206 ∷ 209 ∷ 202 ∷ 210 ∷ 207 ∷ 204 ∷ 208 ∷ 212 ∷ 204 ∷ 214 ∷ 212 ∷ 211 ∷ 208 ∷ 202 ∷
        208 ∷ 212 ∷ 212 ∷ 214 ∷ 212 ∷ 209 ∷ 208 ∷ 202 ∷ 202 ∷ 204 ∷ 209 ∷ 206 ∷ 204 ∷ 206 ∷ 214 ∷ 210 ∷ 206 ∷ 206 ∷ 204 ∷ 203 ∷ 207 ∷ 206 ∷ 208 ∷ 203 ∷ 209 ∷
        214 ∷ 202 ∷ 213 ∷ 208 ∷ 209 ∷ 207 ∷ 205 ∷ 214 ∷ 204 ∷ 210 ∷ 213 ∷ 207 ∷ 207 ∷ 207 ∷ 212 ∷ 211 ∷ 212 ∷ 208 ∷ 210 ∷ 206 ∷ 206 ∷ 206 ∷ 204 ∷ 207 ∷ 214 ∷
        205 ∷ 204 ∷ 206 ∷ 210 ∷ 210 ∷ 214 ∷ 214 ∷ 205 ∷ 209 ∷ 204 ∷ 213 ∷ 209 ∷ 213 ∷ 212 ∷ 203 ∷ 210 ∷ 210 ∷ 214 ∷ 205 ∷ 204 ∷ 209 ∷ 206 ∷ 204 ∷ 204 ∷ 213 ∷
        214 ∷ 211 ∷ 214 ∷ 205 ∷ 211 ∷ 213 ∷ 214 ∷ 213 ∷ 208 ∷ 208 ∷ 214 ∷ 203 ∷ 208 ∷ 206 ∷ 212 ∷ 212 ∷ 213 ∷ 210 ∷ 203 ∷ 202 ∷ 214 ∷ 209 ∷ 212 ∷ 203 ∷ 213 ∷
        213 ∷ 208 ∷ 210 ∷ 205 ∷ 208 ∷ 205 ∷ 207 ∷ 202 ∷ 210 ∷ 208 ∷ 212 ∷ 210 ∷ 203 ∷ 207 ∷ 203 ∷ 203 ∷ 208 ∷ 212 ∷ 212 ∷ 210 ∷ 212 ∷ 214 ∷ 210 ∷ 205 ∷ 212 ∷
        202 ∷ 213 ∷ 207 ∷ 207 ∷ 213 ∷ 211 ∷ 204 ∷ 206 ∷ 202 ∷ 211 ∷ 211 ∷ 208 ∷ 211 ∷ 205 ∷ 204 ∷ 210 ∷ 212 ∷ 206 ∷ 213 ∷ 205 ∷ 202 ∷ 209 ∷ 209 ∷ 210 ∷ 202 ∷
        205 ∷ 203 ∷ 208 ∷ 210 ∷ 207 ∷ 214 ∷ 209 ∷ 212 ∷ 209 ∷ 213 ∷ 213 ∷ 209 ∷ 206 ∷ 202 ∷ 211 ∷ 214 ∷ 214 ∷ 213 ∷ 210 ∷ 202 ∷ 209 ∷ 213 ∷ 211 ∷ 207 ∷ 214 ∷
        211 ∷ 210 ∷ 213 ∷ 204 ∷ 206 ∷ 213 ∷ 205 ∷ 205 ∷ 212 ∷ 205 ∷ 209 ∷ 210 ∷ 202 ∷ 208 ∷ 213 ∷ 205 ∷ 210 ∷ 211 ∷ 212 ∷ 206 ∷ 210 ∷ 212 ∷ 208 ∷ 213 ∷ 209 ∷
        210 ∷ 211 ∷ 207 ∷ 206 ∷ [];
    luma_top = 69 ∷ 72 ∷ 74 ∷ 75 ∷ 73 ∷ 73 ∷ 65 ∷ 75 ∷ 66 ∷ 65 ∷ 75 ∷ 70 ∷ 69 ∷ 74 ∷ 64 ∷ 68 ∷ 74 ∷ 65 ∷ [];
    luma_bottom = 61 ∷ 59 ∷ 62 ∷ 58 ∷ 64 ∷ 64 ∷ 60 ∷ 65 ∷ 64 ∷ 64 ∷ 59 ∷ 60 ∷ 57 ∷ 53 ∷ 56 ∷ 61 ∷ 62 ∷ 53 ∷ 62 ∷ 62 ∷ 57 ∷ 55 ∷ 61 ∷ 54 ∷ 65 ∷ 54 ∷ 57 ∷ 55 ∷ 65 ∷ 58 ∷
        62 ∷ 63 ∷ 64 ∷ 65 ∷ 63 ∷ 56 ∷ 62 ∷ [];
    skip = 0 ∷ 0 ∷ 0 ∷ 0 ∷ 0 ∷ 0 ∷ 0 ∷ 0 ∷ [];
    noskip = [];
    map = [];
    subclass = [];
    filters = pos 117 ∷ pos 116 ∷ negsuc 61 ∷ pos 89 ∷ pos 121 ∷ negsuc 99 ∷ negsuc 16 ∷ pos 98 ∷ pos 92 ∷ negsuc 42 ∷ negsuc 95 ∷ pos 107 ∷ pos 41 ∷ pos 43 ∷
        negsuc 30 ∷ pos 52 ∷ pos 5 ∷ negsuc 85 ∷ [];
    q = pos 0;
  };
  plane = 1 ∷ 3 ∷ 7 ∷ 3 ∷ 4 ∷ 0 ∷ 0 ∷ 0 ∷ 0 ∷ 4 ∷ 1 ∷ 0 ∷ 5 ∷ 0 ∷ 3 ∷ 0 ∷ 2 ∷ 0 ∷ 0 ∷ 4 ∷ 1 ∷ 0 ∷ 2 ∷ 4 ∷ 0 ∷ 0 ∷ 0 ∷ 0 ∷ 0 ∷ 4 ∷ 6 ∷ 0 ∷ 2 ∷ 0 ∷ 0 ∷ 1 ∷ 0 ∷
      0 ∷ 0 ∷ 0 ∷ 0 ∷ 6 ∷ 0 ∷ 0 ∷ 0 ∷ 6 ∷ 0 ∷ 0 ∷ 5 ∷ 0 ∷ 0 ∷ 0 ∷ 0 ∷ 6 ∷ 0 ∷ 4 ∷ [];
  expected = 0 ∷ 0 ∷ 0 ∷ 0 ∷ 0 ∷ 0 ∷ 0 ∷ 0 ∷ 4 ∷ 4 ∷ 6 ∷ 14 ∷ 0 ∷ 4 ∷ 0 ∷ 0 ∷ 13 ∷ 0 ∷ 17 ∷ 0 ∷ 50 ∷ 0 ∷ 1 ∷ 0 ∷ 255 ∷ 225 ∷ 252 ∷ 255 ∷ 255 ∷ 255 ∷ 255 ∷ 255 ∷ [];
}

unit7-holds : holds unit7 ≡ true
unfolding holds final same map_from class_map unit7 sum_z sum_n rounded term bin feature skip_sum bins_of index_of sample_at luma_at class_of final_sample
unit7-holds = refl

unit8 : Vector
unit8 = record {
  op = Luma;
  given = record {
    w = 8;
    h = 4;
    edges = 55;
    stride = 14;
    luma_stride = 2;
    off = 3;
    top_off = 7;
    bottom_off = 1;
    luma_off = 0;
    luma_top_off = 3;
    luma_bottom_off = 4;
    ss_hor = 0;
    ss_ver = 0;
    kind = 0;
  };
  lent = record {
    left = 88 ∷ 96 ∷ 99 ∷ 92 ∷ 98 ∷ 89 ∷ 96 ∷ 90 ∷ 94 ∷ 87 ∷ 87 ∷ 93 ∷ 87 ∷ 95 ∷ 92 ∷ 93 ∷ 91 ∷ 96 ∷ 96 ∷ 91 ∷ 92 ∷ 90 ∷ 88 ∷ 99 ∷ [];
    top = 255 ∷ 0 ∷ 255 ∷ 0 ∷ 0 ∷ 255 ∷ 0 ∷ 0 ∷ 255 ∷ 0 ∷ 255 ∷ 255 ∷ 255 ∷ 255 ∷ 255 ∷ 0 ∷ 255 ∷ 255 ∷ 0 ∷ 255 ∷ 0 ∷ 255 ∷ 0 ∷ 255 ∷ 255 ∷ 0 ∷ 0 ∷ 0 ∷ 255 ∷
        0 ∷ 255 ∷ 0 ∷ 0 ∷ 0 ∷ 0 ∷ 255 ∷ 255 ∷ 0 ∷ 255 ∷ 0 ∷ 0 ∷ 0 ∷ 0 ∷ 0 ∷ 255 ∷ 255 ∷ 0 ∷ 255 ∷ 0 ∷ 255 ∷ 255 ∷ 255 ∷ 255 ∷ 0 ∷ 255 ∷ 255 ∷ 255 ∷ 0 ∷ 255 ∷
        0 ∷ 0 ∷ 0 ∷ [];
    bottom = [];
    luma_plane = [];
    luma_top = [];
    luma_bottom = [];
    skip = 20532 ∷ 9796 ∷ 1465 ∷ 26838 ∷ [];
    noskip = [];
    map = [];
    subclass = [];
    filters = negsuc 25 ∷ pos 13 ∷ negsuc 76 ∷ pos 33 ∷ negsuc 127 ∷ negsuc 87 ∷ pos 2 ∷ pos 21 ∷ pos 32 ∷ pos 0 ∷ pos 77 ∷ negsuc 63 ∷ negsuc 29 ∷ negsuc 33 ∷
        negsuc 90 ∷ pos 7 ∷ [];
    q = pos 0;
  };
  plane = 129 ∷ 66 ∷ 101 ∷ 44 ∷ 97 ∷ 31 ∷ 40 ∷ 42 ∷ 61 ∷ 36 ∷ 59 ∷ 68 ∷ 134 ∷ 92 ∷ 106 ∷ 87 ∷ 60 ∷ 77 ∷ 43 ∷ 112 ∷ 133 ∷ 113 ∷ 109 ∷ 41 ∷ 83 ∷ 129 ∷ 75 ∷ 99 ∷
      29 ∷ 81 ∷ 70 ∷ 132 ∷ 59 ∷ 47 ∷ 31 ∷ 55 ∷ 105 ∷ 85 ∷ 103 ∷ 45 ∷ 88 ∷ 53 ∷ 121 ∷ 52 ∷ 112 ∷ 68 ∷ 53 ∷ 37 ∷ 69 ∷ 57 ∷ 128 ∷ 88 ∷ 75 ∷ 121 ∷ 138 ∷ 41 ∷
      123 ∷ 52 ∷ 91 ∷ 148 ∷ 43 ∷ 102 ∷ 126 ∷ 61 ∷ 32 ∷ 92 ∷ 59 ∷ 92 ∷ 93 ∷ 44 ∷ 126 ∷ 121 ∷ 74 ∷ 149 ∷ 141 ∷ 93 ∷ 60 ∷ 78 ∷ 92 ∷ 75 ∷ 54 ∷ 68 ∷ 82 ∷ 36 ∷
      40 ∷ 141 ∷ 61 ∷ 55 ∷ 127 ∷ 67 ∷ 72 ∷ 48 ∷ 96 ∷ 134 ∷ 67 ∷ 129 ∷ 57 ∷ 136 ∷ 82 ∷ 149 ∷ 126 ∷ 134 ∷ 135 ∷ 34 ∷ 143 ∷ 116 ∷ 135 ∷ 76 ∷ 121 ∷ 144 ∷ 33 ∷
      77 ∷ 90 ∷ 80 ∷ [];
  expected = 0 ∷ 0 ∷ 0 ∷ 0 ∷ 0 ∷ 0 ∷ 0 ∷ 0 ∷ 65 ∷ 0 ∷ 255 ∷ 255 ∷ 255 ∷ 202 ∷ 0 ∷ 45 ∷ 255 ∷ 0 ∷ 63 ∷ 0 ∷ 0 ∷ 255 ∷ 102 ∷ 255 ∷ 0 ∷ 0 ∷ 0 ∷ 0 ∷ 0 ∷ 255 ∷ 188 ∷
      45 ∷ [];
}

unit8-holds : holds unit8 ≡ true
unfolding holds final same map_from class_map unit8 sum_z sum_n rounded term bin feature skip_sum bins_of index_of sample_at luma_at class_of final_sample
unit8-holds = refl

unit9 : Vector
unit9 = record {
  op = User;
  given = record {
    w = 4;
    h = 8;
    edges = 58;
    stride = 10;
    luma_stride = 6;
    off = 3;
    top_off = 4;
    bottom_off = 4;
    luma_off = 3;
    luma_top_off = 2;
    luma_bottom_off = 4;
    ss_hor = 0;
    ss_ver = 0;
    kind = 0;
  };
  lent = record {
    left = [];
    top = 228 ∷ 218 ∷ 210 ∷ 195 ∷ 227 ∷ 226 ∷ 190 ∷ 220 ∷ 214 ∷ 220 ∷ 219 ∷ 229 ∷ 223 ∷ 230 ∷ 223 ∷ 200 ∷ 224 ∷ 230 ∷ 205 ∷ 221 ∷ 216 ∷ 216 ∷ 228 ∷ 203 ∷ 225 ∷
        229 ∷ 199 ∷ 205 ∷ 212 ∷ 227 ∷ 207 ∷ 209 ∷ 224 ∷ 210 ∷ 231 ∷ 214 ∷ 212 ∷ 200 ∷ 191 ∷ 226 ∷ 225 ∷ 204 ∷ 200 ∷ [];
    bottom = [];
    luma_plane = [];
    luma_top = [];
    luma_bottom = [];
    skip = 16402 ∷ 8585 ∷ 17428 ∷ 23940 ∷ 4234 ∷ 16394 ∷ 512 ∷ 22 ∷ [];
    noskip = 6646 ∷ 21680 ∷ [];
    map = class_map;
    subclass = 0 ∷ 0 ∷ 0 ∷ 2 ∷ 0 ∷ 2 ∷ 2 ∷ 1 ∷ 2 ∷ 1 ∷ 2 ∷ 2 ∷ 2 ∷ 1 ∷ 2 ∷ 0 ∷ 0 ∷ 2 ∷ 1 ∷ 0 ∷ 0 ∷ 2 ∷ 0 ∷ 2 ∷ 2 ∷ 1 ∷ 1 ∷ 1 ∷ 0 ∷ 1 ∷ 0 ∷ 1 ∷ 1 ∷ 0 ∷ 2 ∷ 1 ∷ 1 ∷
        1 ∷ 1 ∷ 2 ∷ 0 ∷ 2 ∷ 1 ∷ 1 ∷ 2 ∷ 2 ∷ 1 ∷ 2 ∷ 2 ∷ 1 ∷ 1 ∷ 0 ∷ 0 ∷ 0 ∷ 2 ∷ 1 ∷ 0 ∷ 0 ∷ 0 ∷ 1 ∷ 2 ∷ 2 ∷ 2 ∷ 1 ∷ [];
    filters = pos 10 ∷ pos 6 ∷ pos 13 ∷ negsuc 9 ∷ pos 1 ∷ negsuc 5 ∷ pos 9 ∷ pos 2 ∷ pos 15 ∷ negsuc 1 ∷ pos 11 ∷ pos 19 ∷ pos 11 ∷ negsuc 12 ∷ pos 19 ∷ pos 13 ∷
        negsuc 17 ∷ negsuc 4 ∷ pos 7 ∷ negsuc 17 ∷ pos 7 ∷ pos 14 ∷ negsuc 0 ∷ negsuc 8 ∷ negsuc 3 ∷ negsuc 9 ∷ negsuc 19 ∷ pos 18 ∷ pos 17 ∷ pos 9 ∷
        pos 20 ∷ negsuc 6 ∷ negsuc 16 ∷ pos 18 ∷ negsuc 13 ∷ pos 18 ∷ negsuc 127 ∷ negsuc 127 ∷ negsuc 127 ∷ pos 127 ∷ negsuc 127 ∷ pos 127 ∷ pos 0 ∷ pos 0 ∷
        pos 0 ∷ pos 127 ∷ pos 0 ∷ pos 127 ∷ pos 0 ∷ negsuc 127 ∷ pos 0 ∷ negsuc 127 ∷ pos 0 ∷ pos 0 ∷ [];
    q = pos 13532;
  };
  plane = 195 ∷ 204 ∷ 204 ∷ 221 ∷ 203 ∷ 194 ∷ 216 ∷ 203 ∷ 203 ∷ 198 ∷ 222 ∷ 220 ∷ 208 ∷ 196 ∷ 190 ∷ 218 ∷ 199 ∷ 223 ∷ 197 ∷ 232 ∷ 218 ∷ 194 ∷ 230 ∷ 202 ∷ 209 ∷
      215 ∷ 212 ∷ 210 ∷ 228 ∷ 216 ∷ 226 ∷ 205 ∷ 199 ∷ 195 ∷ 220 ∷ 207 ∷ 218 ∷ 202 ∷ 201 ∷ 200 ∷ 195 ∷ 212 ∷ 211 ∷ 207 ∷ 232 ∷ 200 ∷ 224 ∷ 229 ∷ 196 ∷ 226 ∷
      209 ∷ 207 ∷ 208 ∷ 205 ∷ 230 ∷ 212 ∷ 213 ∷ 214 ∷ 193 ∷ 215 ∷ 232 ∷ 206 ∷ 223 ∷ 191 ∷ 207 ∷ 212 ∷ 226 ∷ 216 ∷ 191 ∷ 229 ∷ 211 ∷ 208 ∷ 230 ∷ 228 ∷ 203 ∷
      228 ∷ 231 ∷ 213 ∷ 221 ∷ 209 ∷ 195 ∷ 197 ∷ 231 ∷ 203 ∷ 193 ∷ 207 ∷ 214 ∷ 200 ∷ 194 ∷ 195 ∷ 206 ∷ 232 ∷ 217 ∷ 216 ∷ 207 ∷ 197 ∷ 201 ∷ 231 ∷ 218 ∷ 231 ∷
      221 ∷ 198 ∷ 194 ∷ 190 ∷ 218 ∷ 191 ∷ 192 ∷ 231 ∷ 231 ∷ 191 ∷ 213 ∷ 193 ∷ 199 ∷ 225 ∷ 200 ∷ 232 ∷ 232 ∷ 221 ∷ 210 ∷ 195 ∷ 192 ∷ 192 ∷ [];
  expected = 228 ∷ 150 ∷ 83 ∷ 229 ∷ 94 ∷ 69 ∷ 239 ∷ 121 ∷ 176 ∷ 187 ∷ 255 ∷ 202 ∷ 164 ∷ 255 ∷ 184 ∷ 255 ∷ 209 ∷ 198 ∷ 212 ∷ 211 ∷ 208 ∷ 200 ∷ 207 ∷ 207 ∷ 214 ∷
      216 ∷ 203 ∷ 210 ∷ 192 ∷ 215 ∷ 197 ∷ 201 ∷ [];
}

unit9-holds : holds unit9 ≡ true
unfolding holds final same map_from class_map unit9 sum_z sum_n rounded term bin feature skip_sum bins_of index_of sample_at luma_at class_of final_sample
unit9-holds = refl

unit10 : Vector
unit10 = record {
  op = Pretrained;
  given = record {
    w = 8;
    h = 4;
    edges = 241;
    stride = 10;
    luma_stride = 1;
    off = 2;
    top_off = 5;
    bottom_off = 4;
    luma_off = 7;
    luma_top_off = 3;
    luma_bottom_off = 3;
    ss_hor = 0;
    ss_ver = 0;
    kind = 0;
  };
  lent = record {
    left = 87 ∷ 97 ∷ 96 ∷ 80 ∷ 90 ∷ 92 ∷ 82 ∷ 102 ∷ 88 ∷ 94 ∷ 85 ∷ 88 ∷ 83 ∷ 85 ∷ 79 ∷ 109 ∷ 109 ∷ 85 ∷ 81 ∷ 110 ∷ 104 ∷ 84 ∷ 112 ∷ 108 ∷ [];
    top = 100 ∷ 96 ∷ 111 ∷ 78 ∷ 93 ∷ 90 ∷ 94 ∷ 89 ∷ 91 ∷ 93 ∷ 112 ∷ 94 ∷ 91 ∷ 88 ∷ 100 ∷ 107 ∷ 101 ∷ 85 ∷ 108 ∷ 107 ∷ 94 ∷ 108 ∷ 91 ∷ 110 ∷ 105 ∷ 89 ∷ 91 ∷
        100 ∷ 107 ∷ 95 ∷ 84 ∷ 103 ∷ 96 ∷ 83 ∷ 86 ∷ 109 ∷ 80 ∷ 104 ∷ 79 ∷ 108 ∷ 81 ∷ 98 ∷ 108 ∷ 91 ∷ [];
    bottom = [];
    luma_plane = [];
    luma_top = [];
    luma_bottom = [];
    skip = 2704 ∷ 15498 ∷ 7719 ∷ 35461 ∷ [];
    noskip = 0 ∷ [];
    map = class_map;
    subclass = 0 ∷ 0 ∷ 0 ∷ 0 ∷ 0 ∷ 0 ∷ 0 ∷ 0 ∷ 0 ∷ 0 ∷ 0 ∷ 0 ∷ 0 ∷ 0 ∷ 0 ∷ 0 ∷ 0 ∷ 0 ∷ 0 ∷ 0 ∷ 0 ∷ 0 ∷ 0 ∷ 0 ∷ 0 ∷ 0 ∷ 0 ∷ 0 ∷ 0 ∷ 0 ∷ 0 ∷ 0 ∷ 0 ∷ 0 ∷ 0 ∷ 0 ∷ 0 ∷
        0 ∷ 0 ∷ 0 ∷ 0 ∷ 0 ∷ 0 ∷ 0 ∷ 0 ∷ 0 ∷ 0 ∷ 0 ∷ 0 ∷ 0 ∷ 0 ∷ 0 ∷ 0 ∷ 0 ∷ 0 ∷ 0 ∷ 0 ∷ 0 ∷ 0 ∷ 0 ∷ 0 ∷ 0 ∷ 0 ∷ 0 ∷ [];
    filters = pos 0 ∷ pos 0 ∷ pos 3 ∷ negsuc 3 ∷ pos 3 ∷ pos 3 ∷ pos 3 ∷ negsuc 0 ∷ negsuc 0 ∷ pos 0 ∷ pos 0 ∷ pos 4 ∷ negsuc 1 ∷ [];
    q = pos 32383;
  };
  plane = 107 ∷ 93 ∷ 96 ∷ 95 ∷ 101 ∷ 89 ∷ 89 ∷ 98 ∷ 109 ∷ 84 ∷ 90 ∷ 112 ∷ 88 ∷ 90 ∷ 105 ∷ 80 ∷ 94 ∷ 98 ∷ 109 ∷ 103 ∷ 107 ∷ 89 ∷ 103 ∷ 84 ∷ 106 ∷ 80 ∷ 102 ∷
      90 ∷ 105 ∷ 93 ∷ 93 ∷ 81 ∷ 86 ∷ 92 ∷ 89 ∷ 106 ∷ 91 ∷ 91 ∷ 101 ∷ 103 ∷ 92 ∷ 82 ∷ 83 ∷ 97 ∷ 82 ∷ 100 ∷ 107 ∷ 111 ∷ 101 ∷ 108 ∷ 85 ∷ 82 ∷ 95 ∷ 82 ∷ 101 ∷
      86 ∷ 103 ∷ 99 ∷ 109 ∷ 85 ∷ 86 ∷ 85 ∷ 104 ∷ 95 ∷ 110 ∷ 88 ∷ 102 ∷ 84 ∷ 93 ∷ 85 ∷ 83 ∷ 108 ∷ 101 ∷ 90 ∷ 106 ∷ 101 ∷ 78 ∷ 103 ∷ 78 ∷ 95 ∷ [];
  expected = 12 ∷ 14 ∷ 12 ∷ 15 ∷ 12 ∷ 14 ∷ 13 ∷ 14 ∷ 12 ∷ 14 ∷ 13 ∷ 14 ∷ 12 ∷ 15 ∷ 12 ∷ 14 ∷ 12 ∷ 14 ∷ 12 ∷ 15 ∷ 12 ∷ 15 ∷ 14 ∷ 15 ∷ 12 ∷ 12 ∷ 14 ∷ 13 ∷ 13 ∷ 14 ∷
      14 ∷ 14 ∷ [];
}

unit10-holds : holds unit10 ≡ true
unfolding holds final same map_from class_map unit10 sum_z sum_n rounded term bin feature skip_sum bins_of index_of sample_at luma_at class_of final_sample
unit10-holds = refl

unit11 : Vector
unit11 = record {
  op = Chroma;
  given = record {
    w = 8;
    h = 4;
    edges = 48;
    stride = 8;
    luma_stride = 9;
    off = 4;
    top_off = 3;
    bottom_off = 3;
    luma_off = 18;
    luma_top_off = 2;
    luma_bottom_off = 5;
    ss_hor = 0;
    ss_ver = 0;
    kind = 0;
  };
  lent = record {
    left = [];
    top = 0 ∷ 0 ∷ 0 ∷ 255 ∷ 0 ∷ 0 ∷ 0 ∷ 0 ∷ 0 ∷ 255 ∷ 0 ∷ 255 ∷ 0 ∷ 0 ∷ 0 ∷ 0 ∷ 255 ∷ 255 ∷ 0 ∷ 0 ∷ 0 ∷ 0 ∷ [];
    bottom = [];
    luma_plane = 0 ∷ 255 ∷ 255 ∷ 0 ∷ 0 ∷ 255 ∷ 255 ∷ 255 ∷ 0 ∷ 0 ∷ 0 ∷ 255 ∷ 255 ∷ 0 ∷ 0 ∷ 0 ∷ 255 ∷ 0 ∷ 255 ∷ 255 ∷ 255 ∷ 0 ∷ 0 ∷ 255 ∷ 0 ∷ 0 ∷ 0 ∷ 255 ∷ 255 ∷ 0 ∷
        0 ∷ 0 ∷ 255 ∷ 0 ∷ 255 ∷ 255 ∷ 255 ∷ 0 ∷ 0 ∷ 255 ∷ 0 ∷ 0 ∷ 0 ∷ 255 ∷ 0 ∷ 0 ∷ 255 ∷ 0 ∷ 0 ∷ 255 ∷ 255 ∷ 0 ∷ 0 ∷ 255 ∷ 255 ∷ 255 ∷ 255 ∷ 0 ∷ 255 ∷ 0 ∷
        255 ∷ 255 ∷ 255 ∷ 255 ∷ 255 ∷ 255 ∷ 255 ∷ 255 ∷ 255 ∷ 0 ∷ 255 ∷ [];
    luma_top = [];
    luma_bottom = [];
    skip = 0 ∷ 0 ∷ 0 ∷ 0 ∷ [];
    noskip = [];
    map = [];
    subclass = [];
    filters = negsuc 73 ∷ pos 99 ∷ pos 35 ∷ pos 10 ∷ pos 109 ∷ pos 29 ∷ pos 113 ∷ pos 60 ∷ negsuc 95 ∷ negsuc 33 ∷ pos 28 ∷ negsuc 86 ∷ pos 72 ∷ pos 28 ∷
        negsuc 89 ∷ negsuc 116 ∷ negsuc 6 ∷ pos 53 ∷ [];
    q = pos 0;
  };
  plane = 202 ∷ 204 ∷ 213 ∷ 213 ∷ 208 ∷ 206 ∷ 210 ∷ 213 ∷ 202 ∷ 211 ∷ 201 ∷ 203 ∷ 211 ∷ 202 ∷ 202 ∷ 212 ∷ 201 ∷ 213 ∷ 204 ∷ 203 ∷ 202 ∷ 201 ∷ 204 ∷ 208 ∷ 210 ∷
      202 ∷ 207 ∷ 209 ∷ 202 ∷ 210 ∷ 211 ∷ 202 ∷ 208 ∷ 204 ∷ 208 ∷ 209 ∷ 211 ∷ 203 ∷ 203 ∷ 205 ∷ 204 ∷ 212 ∷ 204 ∷ 207 ∷ 205 ∷ 205 ∷ 211 ∷ 211 ∷ 207 ∷ 207 ∷
      203 ∷ 210 ∷ [];
  expected = 255 ∷ 255 ∷ 255 ∷ 0 ∷ 0 ∷ 69 ∷ 184 ∷ 255 ∷ 255 ∷ 207 ∷ 0 ∷ 0 ∷ 0 ∷ 255 ∷ 0 ∷ 138 ∷ 138 ∷ 0 ∷ 0 ∷ 255 ∷ 255 ∷ 255 ∷ 0 ∷ 232 ∷ 0 ∷ 99 ∷ 255 ∷ 181 ∷
      30 ∷ 4 ∷ 255 ∷ 255 ∷ [];
}

unit11-holds : holds unit11 ≡ true
unfolding holds final same map_from class_map unit11 sum_z sum_n rounded term bin feature skip_sum bins_of index_of sample_at luma_at class_of final_sample
unit11-holds = refl

unit12 : Vector
unit12 = record {
  op = Chroma;
  given = record {
    w = 4;
    h = 8;
    edges = 183;
    stride = 9;
    luma_stride = 14;
    off = 1;
    top_off = 2;
    bottom_off = 1;
    luma_off = 34;
    luma_top_off = 1;
    luma_bottom_off = 0;
    ss_hor = 1;
    ss_ver = 0;
    kind = 1;
  };
  lent = record {
    left = 88 ∷ 87 ∷ 88 ∷ 86 ∷ 86 ∷ 81 ∷ 85 ∷ 82 ∷ 91 ∷ 81 ∷ 81 ∷ 90 ∷ 89 ∷ 88 ∷ 89 ∷ 89 ∷ 89 ∷ 87 ∷ 88 ∷ 80 ∷ 89 ∷ 92 ∷ 85 ∷ 84 ∷ 91 ∷ 80 ∷ 89 ∷ 84 ∷ 83 ∷ 85 ∷
        80 ∷ 87 ∷ 86 ∷ 89 ∷ 85 ∷ 82 ∷ 85 ∷ 83 ∷ 80 ∷ 90 ∷ 82 ∷ 87 ∷ 91 ∷ 89 ∷ 86 ∷ 84 ∷ 91 ∷ 80 ∷ [];
    top = 26 ∷ 41 ∷ 4 ∷ 11 ∷ 33 ∷ 28 ∷ 34 ∷ 0 ∷ 0 ∷ 0 ∷ 30 ∷ 47 ∷ 0 ∷ 0 ∷ 2 ∷ 77 ∷ 0 ∷ [];
    bottom = [];
    luma_plane = 189 ∷ 186 ∷ 195 ∷ 187 ∷ 185 ∷ 188 ∷ 193 ∷ 186 ∷ 189 ∷ 187 ∷ 188 ∷ 194 ∷ 185 ∷ 191 ∷ 188 ∷ 189 ∷ 190 ∷ 191 ∷ 192 ∷ 195 ∷ 193 ∷ 191 ∷ 196 ∷ 186 ∷ 196 ∷
        190 ∷ 195 ∷ 189 ∷ 188 ∷ 187 ∷ 188 ∷ 186 ∷ 191 ∷ 192 ∷ 192 ∷ 187 ∷ 195 ∷ 185 ∷ 193 ∷ 197 ∷ 188 ∷ 189 ∷ 196 ∷ 196 ∷ 185 ∷ 193 ∷ 186 ∷ 190 ∷ 191 ∷ 185 ∷
        191 ∷ 197 ∷ 188 ∷ 187 ∷ 196 ∷ 196 ∷ 196 ∷ 185 ∷ 197 ∷ 197 ∷ 194 ∷ 193 ∷ 191 ∷ 194 ∷ 194 ∷ 193 ∷ 189 ∷ 185 ∷ 194 ∷ 193 ∷ 194 ∷ 185 ∷ 187 ∷ 195 ∷ 186 ∷
        196 ∷ 187 ∷ 187 ∷ 187 ∷ 188 ∷ 189 ∷ 194 ∷ 195 ∷ 191 ∷ 189 ∷ 196 ∷ 193 ∷ 185 ∷ 197 ∷ 192 ∷ 192 ∷ 196 ∷ 187 ∷ 189 ∷ 189 ∷ 187 ∷ 192 ∷ 197 ∷ 197 ∷ 197 ∷
        187 ∷ 191 ∷ 188 ∷ 192 ∷ 189 ∷ 190 ∷ 190 ∷ 193 ∷ 190 ∷ 190 ∷ 189 ∷ 190 ∷ 193 ∷ 187 ∷ 194 ∷ 186 ∷ 195 ∷ 197 ∷ 187 ∷ 191 ∷ 186 ∷ 194 ∷ 197 ∷ 185 ∷ 194 ∷
        191 ∷ 192 ∷ 185 ∷ 194 ∷ 187 ∷ 194 ∷ 189 ∷ 187 ∷ 192 ∷ 189 ∷ 187 ∷ 193 ∷ 187 ∷ 194 ∷ 191 ∷ 196 ∷ 194 ∷ 191 ∷ 191 ∷ 196 ∷ 189 ∷ 193 ∷ 189 ∷ 194 ∷ 195 ∷
        185 ∷ 194 ∷ 186 ∷ 196 ∷ 197 ∷ 186 ∷ 196 ∷ 197 ∷ 189 ∷ 195 ∷ 194 ∷ 186 ∷ 192 ∷ 194 ∷ 192 ∷ 196 ∷ 197 ∷ 187 ∷ 188 ∷ 191 ∷ 185 ∷ 189 ∷ 187 ∷ [];
    luma_top = [];
    luma_bottom = [];
    skip = 10370 ∷ 34669 ∷ 41660 ∷ 53498 ∷ 57262 ∷ 28959 ∷ 16160 ∷ 11467 ∷ [];
    noskip = [];
    map = [];
    subclass = [];
    filters = negsuc 9 ∷ negsuc 7 ∷ pos 1 ∷ pos 16 ∷ negsuc 4 ∷ pos 1 ∷ negsuc 15 ∷ pos 16 ∷ negsuc 12 ∷ pos 8 ∷ pos 5 ∷ negsuc 10 ∷ pos 19 ∷ negsuc 0 ∷ pos 8 ∷
        pos 15 ∷ pos 1 ∷ negsuc 18 ∷ [];
    q = pos 0;
  };
  plane = 79 ∷ 130 ∷ 127 ∷ 140 ∷ 135 ∷ 154 ∷ 86 ∷ 79 ∷ 94 ∷ 96 ∷ 173 ∷ 151 ∷ 169 ∷ 57 ∷ 104 ∷ 147 ∷ 102 ∷ 85 ∷ 117 ∷ 136 ∷ 141 ∷ 147 ∷ 114 ∷ 75 ∷ 171 ∷ 123 ∷
      86 ∷ 125 ∷ 123 ∷ 163 ∷ 65 ∷ 62 ∷ 104 ∷ 81 ∷ 146 ∷ 172 ∷ 68 ∷ 120 ∷ 156 ∷ 77 ∷ 150 ∷ 81 ∷ 158 ∷ 130 ∷ 93 ∷ 152 ∷ 129 ∷ 63 ∷ 142 ∷ 98 ∷ 95 ∷ 73 ∷ 108 ∷
      126 ∷ 128 ∷ 71 ∷ 90 ∷ 160 ∷ 56 ∷ 95 ∷ 56 ∷ 75 ∷ 85 ∷ 89 ∷ 105 ∷ 107 ∷ 153 ∷ 109 ∷ 155 ∷ 148 ∷ 164 ∷ 107 ∷ 90 ∷ 136 ∷ 92 ∷ 92 ∷ 98 ∷ 63 ∷ 82 ∷ 133 ∷
      96 ∷ 92 ∷ 119 ∷ 87 ∷ 168 ∷ 134 ∷ 55 ∷ 84 ∷ [];
  expected = 120 ∷ 128 ∷ 137 ∷ 148 ∷ 176 ∷ 154 ∷ 183 ∷ 64 ∷ 133 ∷ 138 ∷ 148 ∷ 114 ∷ 117 ∷ 170 ∷ 64 ∷ 54 ∷ 119 ∷ 157 ∷ 56 ∷ 168 ∷ 139 ∷ 43 ∷ 149 ∷ 102 ∷ 60 ∷ 93 ∷
      160 ∷ 54 ∷ 100 ∷ 118 ∷ 144 ∷ 105 ∷ [];
}

unit12-holds : holds unit12 ≡ true
unfolding holds final same map_from class_map unit12 sum_z sum_n rounded term bin feature skip_sum bins_of index_of sample_at luma_at class_of final_sample
unit12-holds = refl

unit13 : Vector
unit13 = record {
  op = Chroma;
  given = record {
    w = 8;
    h = 4;
    edges = 62;
    stride = 11;
    luma_stride = 5;
    off = 4;
    top_off = 1;
    bottom_off = 2;
    luma_off = 21;
    luma_top_off = 4;
    luma_bottom_off = 6;
    ss_hor = 1;
    ss_ver = 1;
    kind = 0;
  };
  lent = record {
    left = [];
    top = 49 ∷ 28 ∷ 100 ∷ 180 ∷ 60 ∷ 172 ∷ 229 ∷ 120 ∷ 54 ∷ 160 ∷ 232 ∷ 161 ∷ 161 ∷ 47 ∷ 159 ∷ 14 ∷ 204 ∷ 9 ∷ 64 ∷ 215 ∷ 97 ∷ 21 ∷ 142 ∷ [];
    bottom = [];
    luma_plane = 73 ∷ 56 ∷ 45 ∷ 82 ∷ 22 ∷ 71 ∷ 32 ∷ 26 ∷ 28 ∷ 70 ∷ 57 ∷ 95 ∷ 121 ∷ 20 ∷ 36 ∷ 123 ∷ 84 ∷ 108 ∷ 75 ∷ 117 ∷ 54 ∷ 49 ∷ 71 ∷ 99 ∷ 83 ∷ 79 ∷ 15 ∷ 30 ∷ 86 ∷
        41 ∷ 65 ∷ 105 ∷ 122 ∷ 115 ∷ 113 ∷ 118 ∷ 68 ∷ 49 ∷ 50 ∷ 29 ∷ 131 ∷ 40 ∷ 131 ∷ 25 ∷ 64 ∷ 85 ∷ 98 ∷ 102 ∷ 61 ∷ 87 ∷ 129 ∷ 104 ∷ 28 ∷ 77 ∷ 50 ∷ 60 ∷
        130 ∷ 50 ∷ 45 ∷ 90 ∷ 115 ∷ 115 ∷ 48 ∷ 77 ∷ 60 ∷ 84 ∷ 99 ∷ 91 ∷ 104 ∷ 86 ∷ 113 ∷ 16 ∷ 13 ∷ 53 ∷ 119 ∷ 34 ∷ 101 ∷ 118 ∷ 68 ∷ 70 ∷ 68 ∷ 25 ∷ 34 ∷ 35 ∷
        79 ∷ 88 ∷ 116 ∷ 64 ∷ 88 ∷ 26 ∷ 100 ∷ 30 ∷ 128 ∷ 94 ∷ 76 ∷ 130 ∷ 126 ∷ [];
    luma_top = [];
    luma_bottom = [];
    skip = 0 ∷ 0 ∷ 0 ∷ 0 ∷ [];
    noskip = [];
    map = [];
    subclass = [];
    filters = pos 0 ∷ negsuc 127 ∷ negsuc 127 ∷ pos 127 ∷ pos 127 ∷ negsuc 127 ∷ pos 127 ∷ pos 0 ∷ pos 127 ∷ pos 127 ∷ pos 0 ∷ negsuc 127 ∷ pos 127 ∷ pos 127 ∷
        pos 0 ∷ negsuc 127 ∷ pos 0 ∷ negsuc 127 ∷ [];
    q = pos 0;
  };
  plane = 255 ∷ 0 ∷ 255 ∷ 255 ∷ 0 ∷ 255 ∷ 255 ∷ 0 ∷ 0 ∷ 255 ∷ 0 ∷ 255 ∷ 0 ∷ 255 ∷ 255 ∷ 255 ∷ 255 ∷ 255 ∷ 0 ∷ 255 ∷ 0 ∷ 0 ∷ 0 ∷ 0 ∷ 255 ∷ 0 ∷ 0 ∷ 0 ∷ 0 ∷ 0 ∷
      255 ∷ 255 ∷ 0 ∷ 0 ∷ 0 ∷ 0 ∷ 255 ∷ 0 ∷ 0 ∷ 255 ∷ 0 ∷ 0 ∷ 0 ∷ 0 ∷ 0 ∷ 0 ∷ 0 ∷ 255 ∷ 0 ∷ 255 ∷ 255 ∷ 0 ∷ 0 ∷ 255 ∷ 255 ∷ 0 ∷ 255 ∷ 255 ∷ 0 ∷ 0 ∷ 0 ∷
      255 ∷ 255 ∷ 0 ∷ 0 ∷ 255 ∷ 255 ∷ 0 ∷ 255 ∷ [];
  expected = 0 ∷ 255 ∷ 255 ∷ 0 ∷ 0 ∷ 255 ∷ 0 ∷ 255 ∷ 188 ∷ 255 ∷ 136 ∷ 0 ∷ 255 ∷ 7 ∷ 128 ∷ 0 ∷ 0 ∷ 255 ∷ 0 ∷ 0 ∷ 255 ∷ 255 ∷ 0 ∷ 0 ∷ 0 ∷ 0 ∷ 255 ∷ 255 ∷ 0 ∷ 0 ∷
      255 ∷ 173 ∷ [];
}

unit13-holds : holds unit13 ≡ true
unfolding holds final same map_from class_map unit13 sum_z sum_n rounded term bin feature skip_sum bins_of index_of sample_at luma_at class_of final_sample
unit13-holds = refl

unit14 : Vector
unit14 = record {
  op = Chroma;
  given = record {
    w = 8;
    h = 4;
    edges = 121;
    stride = 9;
    luma_stride = 17;
    off = 3;
    top_off = 5;
    bottom_off = 4;
    luma_off = 75;
    luma_top_off = 5;
    luma_bottom_off = 1;
    ss_hor = 1;
    ss_ver = 1;
    kind = 1;
  };
  lent = record {
    left = 88 ∷ 93 ∷ 88 ∷ 85 ∷ 92 ∷ 83 ∷ 90 ∷ 93 ∷ 91 ∷ 93 ∷ 93 ∷ 84 ∷ 94 ∷ 89 ∷ 89 ∷ 87 ∷ 93 ∷ 86 ∷ 93 ∷ 87 ∷ 88 ∷ 89 ∷ 82 ∷ 93 ∷ [];
    top = 255 ∷ 0 ∷ 0 ∷ 0 ∷ 255 ∷ 0 ∷ 0 ∷ 0 ∷ 0 ∷ 0 ∷ 0 ∷ 0 ∷ 255 ∷ 255 ∷ 255 ∷ 0 ∷ 0 ∷ 255 ∷ 0 ∷ 0 ∷ 255 ∷ 255 ∷ [];
    bottom = [];
    luma_plane = 255 ∷ 255 ∷ 0 ∷ 255 ∷ 255 ∷ 255 ∷ 255 ∷ 255 ∷ 0 ∷ 255 ∷ 255 ∷ 0 ∷ 0 ∷ 0 ∷ 255 ∷ 255 ∷ 255 ∷ 0 ∷ 255 ∷ 0 ∷ 0 ∷ 255 ∷ 0 ∷ 0 ∷ 255 ∷ 0 ∷ 255 ∷ 255 ∷ 0 ∷
        255 ∷ 0 ∷ 0 ∷ 0 ∷ 255 ∷ 0 ∷ 255 ∷ 255 ∷ 0 ∷ 0 ∷ 0 ∷ 0 ∷ 255 ∷ 0 ∷ 0 ∷ 255 ∷ 255 ∷ 0 ∷ 0 ∷ 255 ∷ 0 ∷ 0 ∷ 255 ∷ 255 ∷ 255 ∷ 0 ∷ 0 ∷ 255 ∷ 0 ∷ 255 ∷
        255 ∷ 255 ∷ 0 ∷ 255 ∷ 0 ∷ 0 ∷ 0 ∷ 255 ∷ 0 ∷ 255 ∷ 0 ∷ 0 ∷ 255 ∷ 0 ∷ 255 ∷ 255 ∷ 0 ∷ 255 ∷ 0 ∷ 0 ∷ 255 ∷ 0 ∷ 255 ∷ 255 ∷ 0 ∷ 0 ∷ 255 ∷ 255 ∷ 0 ∷ 0 ∷
        0 ∷ 0 ∷ 255 ∷ 0 ∷ 0 ∷ 255 ∷ 0 ∷ 255 ∷ 255 ∷ 0 ∷ 255 ∷ 255 ∷ 255 ∷ 255 ∷ 0 ∷ 255 ∷ 255 ∷ 255 ∷ 0 ∷ 255 ∷ 255 ∷ 0 ∷ 255 ∷ 255 ∷ 255 ∷ 0 ∷ 0 ∷ 0 ∷ 255 ∷
        0 ∷ 255 ∷ 255 ∷ 0 ∷ 0 ∷ 255 ∷ 255 ∷ 0 ∷ 255 ∷ 255 ∷ 0 ∷ 255 ∷ 0 ∷ 255 ∷ 255 ∷ 0 ∷ 255 ∷ 255 ∷ 255 ∷ 255 ∷ 255 ∷ 255 ∷ 255 ∷ 0 ∷ 255 ∷ 255 ∷ 0 ∷ 0 ∷
        0 ∷ 0 ∷ 0 ∷ 0 ∷ 0 ∷ 0 ∷ 255 ∷ 0 ∷ 0 ∷ 0 ∷ 255 ∷ 255 ∷ 0 ∷ 255 ∷ 255 ∷ 255 ∷ 255 ∷ 255 ∷ 0 ∷ 0 ∷ 0 ∷ 255 ∷ 0 ∷ 0 ∷ 255 ∷ 255 ∷ 0 ∷ 255 ∷ 0 ∷ 255 ∷ 0 ∷
        255 ∷ 0 ∷ 0 ∷ 0 ∷ 255 ∷ 0 ∷ 255 ∷ 0 ∷ 255 ∷ 0 ∷ 0 ∷ 0 ∷ 0 ∷ 255 ∷ 0 ∷ 255 ∷ 255 ∷ 255 ∷ 0 ∷ 0 ∷ 255 ∷ 255 ∷ 0 ∷ 255 ∷ 0 ∷ 255 ∷ 0 ∷ 0 ∷ 255 ∷ 0 ∷ 0 ∷
        255 ∷ 0 ∷ 255 ∷ 0 ∷ 0 ∷ 0 ∷ 0 ∷ 255 ∷ 0 ∷ 255 ∷ 255 ∷ 0 ∷ 255 ∷ 255 ∷ 255 ∷ 0 ∷ 0 ∷ 255 ∷ 255 ∷ 255 ∷ 0 ∷ 255 ∷ 255 ∷ 0 ∷ 0 ∷ 255 ∷ 0 ∷ 255 ∷ 255 ∷
        0 ∷ 0 ∷ 0 ∷ 255 ∷ 0 ∷ 255 ∷ 255 ∷ 255 ∷ 0 ∷ 0 ∷ 255 ∷ 255 ∷ 0 ∷ 0 ∷ 0 ∷ 255 ∷ 255 ∷ 255 ∷ 0 ∷ 0 ∷ 0 ∷ 0 ∷ 0 ∷ 0 ∷ 0 ∷ 255 ∷ 255 ∷ 255 ∷ 255 ∷ 0 ∷ 0 ∷
        0 ∷ 255 ∷ 255 ∷ 255 ∷ 0 ∷ 0 ∷ 0 ∷ 255 ∷ 0 ∷ 0 ∷ 255 ∷ [];
    luma_top = [];
    luma_bottom = [];
    skip = 0 ∷ 0 ∷ 0 ∷ 0 ∷ [];
    noskip = [];
    map = [];
    subclass = [];
    filters = pos 10 ∷ negsuc 0 ∷ pos 11 ∷ pos 5 ∷ pos 2 ∷ negsuc 0 ∷ pos 20 ∷ pos 11 ∷ negsuc 2 ∷ negsuc 18 ∷ pos 8 ∷ negsuc 0 ∷ pos 8 ∷ negsuc 16 ∷ pos 7 ∷
        negsuc 14 ∷ negsuc 17 ∷ pos 0 ∷ [];
    q = pos 0;
  };
  plane = 54 ∷ 47 ∷ 214 ∷ 212 ∷ 229 ∷ 117 ∷ 48 ∷ 25 ∷ 13 ∷ 228 ∷ 236 ∷ 125 ∷ 18 ∷ 21 ∷ 195 ∷ 71 ∷ 208 ∷ 153 ∷ 45 ∷ 71 ∷ 169 ∷ 122 ∷ 199 ∷ 195 ∷ 12 ∷ 101 ∷
      180 ∷ 50 ∷ 83 ∷ 95 ∷ 79 ∷ 255 ∷ 209 ∷ 41 ∷ 130 ∷ 105 ∷ 203 ∷ 228 ∷ 226 ∷ 20 ∷ 175 ∷ 28 ∷ 83 ∷ 15 ∷ 163 ∷ 190 ∷ 54 ∷ 250 ∷ 214 ∷ 81 ∷ 216 ∷ 235 ∷ 35 ∷
      200 ∷ 84 ∷ 234 ∷ 94 ∷ [];
  expected = 158 ∷ 167 ∷ 131 ∷ 44 ∷ 94 ∷ 88 ∷ 134 ∷ 214 ∷ 112 ∷ 49 ∷ 129 ∷ 63 ∷ 180 ∷ 104 ∷ 8 ∷ 140 ∷ 182 ∷ 145 ∷ 196 ∷ 79 ∷ 138 ∷ 142 ∷ 77 ∷ 170 ∷ 58 ∷ 156 ∷
      167 ∷ 44 ∷ 114 ∷ 54 ∷ 156 ∷ 190 ∷ [];
}

unit14-holds : holds unit14 ≡ true
unfolding holds final same map_from class_map unit14 sum_z sum_n rounded term bin feature skip_sum bins_of index_of sample_at luma_at class_of final_sample
unit14-holds = refl

unit15 : Vector
unit15 = record {
  op = Chroma;
  given = record {
    w = 4;
    h = 8;
    edges = 48;
    stride = 6;
    luma_stride = 10;
    off = 4;
    top_off = 2;
    bottom_off = 1;
    luma_off = 40;
    luma_top_off = 5;
    luma_bottom_off = 1;
    ss_hor = 1;
    ss_ver = 1;
    kind = 2;
  };
  lent = record {
    left = [];
    top = 34 ∷ 181 ∷ 246 ∷ 254 ∷ 18 ∷ 105 ∷ 179 ∷ 146 ∷ 107 ∷ 55 ∷ 77 ∷ 28 ∷ [];
    bottom = [];
    luma_plane = 175 ∷ 93 ∷ 253 ∷ 151 ∷ 224 ∷ 97 ∷ 55 ∷ 239 ∷ 199 ∷ 17 ∷ 166 ∷ 197 ∷ 65 ∷ 17 ∷ 112 ∷ 244 ∷ 116 ∷ 0 ∷ 169 ∷ 219 ∷ 101 ∷ 123 ∷ 122 ∷ 221 ∷ 101 ∷ 116 ∷
        200 ∷ 81 ∷ 133 ∷ 131 ∷ 52 ∷ 95 ∷ 254 ∷ 82 ∷ 239 ∷ 93 ∷ 155 ∷ 43 ∷ 229 ∷ 100 ∷ 59 ∷ 135 ∷ 146 ∷ 161 ∷ 56 ∷ 203 ∷ 46 ∷ 141 ∷ 232 ∷ 52 ∷ 116 ∷ 55 ∷
        127 ∷ 196 ∷ 86 ∷ 207 ∷ 153 ∷ 210 ∷ 101 ∷ 207 ∷ 221 ∷ 134 ∷ 57 ∷ 8 ∷ 85 ∷ 159 ∷ 95 ∷ 57 ∷ 159 ∷ 175 ∷ 37 ∷ 204 ∷ 185 ∷ 118 ∷ 105 ∷ 193 ∷ 96 ∷ 44 ∷
        78 ∷ 196 ∷ 122 ∷ 113 ∷ 81 ∷ 48 ∷ 59 ∷ 61 ∷ 92 ∷ 28 ∷ 170 ∷ 190 ∷ 121 ∷ 158 ∷ 146 ∷ 218 ∷ 18 ∷ 63 ∷ 231 ∷ 107 ∷ 56 ∷ 220 ∷ 68 ∷ 66 ∷ 101 ∷ 64 ∷ 167 ∷
        229 ∷ 182 ∷ 184 ∷ 46 ∷ 50 ∷ 179 ∷ 151 ∷ 68 ∷ 221 ∷ 58 ∷ 109 ∷ 222 ∷ 249 ∷ 72 ∷ 111 ∷ 88 ∷ 216 ∷ 31 ∷ 165 ∷ 54 ∷ 138 ∷ 97 ∷ 224 ∷ 143 ∷ 162 ∷ 13 ∷
        18 ∷ 217 ∷ 111 ∷ 163 ∷ 218 ∷ 139 ∷ 22 ∷ 36 ∷ 133 ∷ 181 ∷ 79 ∷ 17 ∷ 105 ∷ 180 ∷ 158 ∷ 54 ∷ 245 ∷ 158 ∷ 24 ∷ 176 ∷ 80 ∷ 191 ∷ 31 ∷ 62 ∷ 154 ∷ 118 ∷
        119 ∷ 2 ∷ 142 ∷ 248 ∷ 4 ∷ 199 ∷ 177 ∷ 146 ∷ 86 ∷ 111 ∷ 67 ∷ 111 ∷ 201 ∷ 157 ∷ 212 ∷ 101 ∷ 75 ∷ 87 ∷ 175 ∷ 115 ∷ 87 ∷ 246 ∷ 159 ∷ 145 ∷ 243 ∷ 145 ∷
        73 ∷ 141 ∷ 212 ∷ 38 ∷ 155 ∷ 10 ∷ 30 ∷ 89 ∷ 107 ∷ 186 ∷ 167 ∷ 67 ∷ 125 ∷ 147 ∷ 127 ∷ 155 ∷ 140 ∷ 4 ∷ 187 ∷ 6 ∷ 43 ∷ 186 ∷ 219 ∷ 160 ∷ 126 ∷ 63 ∷ 49 ∷
        68 ∷ 140 ∷ 5 ∷ 239 ∷ 219 ∷ 133 ∷ 70 ∷ 78 ∷ 0 ∷ 29 ∷ 249 ∷ 241 ∷ 63 ∷ 22 ∷ 220 ∷ 250 ∷ 73 ∷ 25 ∷ [];
    luma_top = [];
    luma_bottom = [];
    skip = 0 ∷ 0 ∷ 0 ∷ 0 ∷ 0 ∷ 0 ∷ 0 ∷ 0 ∷ [];
    noskip = [];
    map = [];
    subclass = [];
    filters = pos 0 ∷ pos 0 ∷ pos 0 ∷ pos 3 ∷ pos 0 ∷ pos 0 ∷ negsuc 1 ∷ pos 0 ∷ pos 0 ∷ pos 0 ∷ pos 0 ∷ pos 1 ∷ pos 0 ∷ pos 0 ∷ pos 0 ∷ pos 0 ∷ pos 2 ∷ pos 0 ∷ [];
    q = pos 0;
  };
  plane = 0 ∷ 255 ∷ 0 ∷ 0 ∷ 255 ∷ 0 ∷ 255 ∷ 0 ∷ 0 ∷ 255 ∷ 0 ∷ 255 ∷ 0 ∷ 0 ∷ 255 ∷ 255 ∷ 255 ∷ 255 ∷ 255 ∷ 0 ∷ 255 ∷ 0 ∷ 0 ∷ 255 ∷ 0 ∷ 0 ∷ 255 ∷ 255 ∷ 0 ∷ 0 ∷
      0 ∷ 255 ∷ 255 ∷ 255 ∷ 0 ∷ 0 ∷ 255 ∷ 0 ∷ 0 ∷ 255 ∷ 255 ∷ 0 ∷ 255 ∷ 255 ∷ 255 ∷ 255 ∷ 0 ∷ 255 ∷ 255 ∷ 0 ∷ 255 ∷ 0 ∷ 255 ∷ 0 ∷ 255 ∷ 255 ∷ 255 ∷ 255 ∷
      0 ∷ 255 ∷ 255 ∷ 255 ∷ [];
  expected = 242 ∷ 1 ∷ 250 ∷ 0 ∷ 4 ∷ 255 ∷ 7 ∷ 6 ∷ 250 ∷ 244 ∷ 248 ∷ 0 ∷ 8 ∷ 252 ∷ 1 ∷ 0 ∷ 4 ∷ 2 ∷ 0 ∷ 250 ∷ 4 ∷ 4 ∷ 246 ∷ 11 ∷ 243 ∷ 5 ∷ 248 ∷ 251 ∷ 9 ∷ 255 ∷
      247 ∷ 11 ∷ [];
}

unit15-holds : holds unit15 ≡ true
unfolding holds final same map_from class_map unit15 sum_z sum_n rounded term bin feature skip_sum bins_of index_of sample_at luma_at class_of final_sample
unit15-holds = refl

unit16 : Vector
unit16 = record {
  op = Luma;
  given = record {
    w = 4;
    h = 8;
    edges = 129;
    stride = 4;
    luma_stride = 1;
    off = 1;
    top_off = 0;
    bottom_off = 7;
    luma_off = 8;
    luma_top_off = 4;
    luma_bottom_off = 8;
    ss_hor = 0;
    ss_ver = 0;
    kind = 0;
  };
  lent = record {
    left = 183 ∷ 179 ∷ 174 ∷ 172 ∷ 179 ∷ 180 ∷ 181 ∷ 173 ∷ 179 ∷ 174 ∷ 175 ∷ 177 ∷ 182 ∷ 177 ∷ 179 ∷ 181 ∷ 179 ∷ 177 ∷ 177 ∷ 171 ∷ 173 ∷ 180 ∷ 172 ∷ 176 ∷ 174 ∷
        181 ∷ 174 ∷ 175 ∷ 179 ∷ 171 ∷ 179 ∷ 174 ∷ 181 ∷ 174 ∷ 181 ∷ 182 ∷ 176 ∷ 180 ∷ 177 ∷ 180 ∷ 183 ∷ 183 ∷ 175 ∷ 176 ∷ 183 ∷ 175 ∷ 179 ∷ 172 ∷ [];
    top = [];
    bottom = [];
    luma_plane = [];
    luma_top = [];
    luma_bottom = [];
    skip = 0 ∷ 0 ∷ 0 ∷ 0 ∷ 0 ∷ 0 ∷ 0 ∷ 0 ∷ [];
    noskip = [];
    map = [];
    subclass = [];
    filters = pos 0 ∷ pos 0 ∷ pos 0 ∷ pos 0 ∷ pos 0 ∷ pos 3 ∷ negsuc 1 ∷ pos 0 ∷ negsuc 3 ∷ pos 2 ∷ pos 0 ∷ pos 0 ∷ pos 4 ∷ negsuc 3 ∷ negsuc 1 ∷ pos 0 ∷ [];
    q = pos 0;
  };
  plane = 116 ∷ 221 ∷ 150 ∷ 166 ∷ 228 ∷ 71 ∷ 50 ∷ 24 ∷ 59 ∷ 189 ∷ 119 ∷ 169 ∷ 16 ∷ 64 ∷ 88 ∷ 108 ∷ 9 ∷ 138 ∷ 69 ∷ 110 ∷ 216 ∷ 149 ∷ 77 ∷ 27 ∷ 169 ∷ 217 ∷ 195 ∷
      129 ∷ 253 ∷ 244 ∷ 81 ∷ 193 ∷ 223 ∷ [];
  expected = 229 ∷ 147 ∷ 167 ∷ 237 ∷ 70 ∷ 49 ∷ 22 ∷ 67 ∷ 196 ∷ 119 ∷ 172 ∷ 18 ∷ 68 ∷ 83 ∷ 100 ∷ 1 ∷ 139 ∷ 54 ∷ 99 ∷ 211 ∷ 145 ∷ 64 ∷ 17 ∷ 168 ∷ 214 ∷ 185 ∷ 123 ∷
      252 ∷ 244 ∷ 69 ∷ 190 ∷ 221 ∷ [];
}

unit16-holds : holds unit16 ≡ true
unfolding holds final same map_from class_map unit16 sum_z sum_n rounded term bin feature skip_sum bins_of index_of sample_at luma_at class_of final_sample
unit16-holds = refl

unit17 : Vector
unit17 = record {
  op = User;
  given = record {
    w = 8;
    h = 4;
    edges = 36;
    stride = 8;
    luma_stride = 0;
    off = 4;
    top_off = 2;
    bottom_off = 1;
    luma_off = 1;
    luma_top_off = 6;
    luma_bottom_off = 4;
    ss_hor = 0;
    ss_ver = 0;
    kind = 0;
  };
  lent = record {
    left = [];
    top = 0 ∷ 255 ∷ 255 ∷ 255 ∷ 0 ∷ 0 ∷ 255 ∷ 0 ∷ 255 ∷ 255 ∷ 255 ∷ 0 ∷ 0 ∷ 255 ∷ 255 ∷ 255 ∷ 255 ∷ 0 ∷ [];
    bottom = [];
    luma_plane = [];
    luma_top = [];
    luma_bottom = [];
    skip = 50 ∷ 10786 ∷ 8560 ∷ 3137 ∷ [];
    noskip = 2048 ∷ [];
    map = class_map;
    subclass = 1 ∷ 1 ∷ 1 ∷ 1 ∷ 0 ∷ 0 ∷ 0 ∷ 1 ∷ 1 ∷ 1 ∷ 1 ∷ 0 ∷ 1 ∷ 1 ∷ 1 ∷ 0 ∷ 0 ∷ 1 ∷ 1 ∷ 0 ∷ 1 ∷ 0 ∷ 0 ∷ 1 ∷ 1 ∷ 1 ∷ 1 ∷ 0 ∷ 0 ∷ 1 ∷ 1 ∷ 0 ∷ 1 ∷ 0 ∷ 0 ∷ 0 ∷ 0 ∷
        1 ∷ 0 ∷ 1 ∷ 0 ∷ 1 ∷ 1 ∷ 1 ∷ 0 ∷ 1 ∷ 1 ∷ 0 ∷ 0 ∷ 0 ∷ 0 ∷ 1 ∷ 0 ∷ 0 ∷ 1 ∷ 0 ∷ 1 ∷ 1 ∷ 1 ∷ 1 ∷ 1 ∷ 0 ∷ 1 ∷ 1 ∷ [];
    filters = pos 116 ∷ negsuc 88 ∷ pos 29 ∷ pos 65 ∷ negsuc 48 ∷ pos 17 ∷ negsuc 43 ∷ pos 39 ∷ negsuc 62 ∷ negsuc 34 ∷ negsuc 21 ∷ negsuc 77 ∷ pos 99 ∷ pos 66 ∷
        pos 0 ∷ pos 6 ∷ negsuc 48 ∷ negsuc 122 ∷ pos 113 ∷ pos 120 ∷ pos 124 ∷ negsuc 78 ∷ pos 114 ∷ pos 86 ∷ negsuc 89 ∷ pos 82 ∷ pos 5 ∷ pos 68 ∷ pos 8 ∷
        pos 110 ∷ negsuc 54 ∷ pos 32 ∷ pos 120 ∷ negsuc 96 ∷ pos 75 ∷ pos 53 ∷ [];
    q = negsuc 30848;
  };
  plane = 0 ∷ 255 ∷ 255 ∷ 0 ∷ 255 ∷ 0 ∷ 0 ∷ 255 ∷ 255 ∷ 0 ∷ 255 ∷ 255 ∷ 0 ∷ 0 ∷ 0 ∷ 255 ∷ 0 ∷ 255 ∷ 255 ∷ 0 ∷ 255 ∷ 0 ∷ 0 ∷ 255 ∷ 255 ∷ 0 ∷ 255 ∷ 0 ∷ 255 ∷ 0 ∷
      0 ∷ 0 ∷ 255 ∷ 0 ∷ 255 ∷ 0 ∷ 0 ∷ 255 ∷ 255 ∷ 255 ∷ 0 ∷ 255 ∷ 0 ∷ 0 ∷ 255 ∷ 0 ∷ 255 ∷ 0 ∷ 255 ∷ 0 ∷ 0 ∷ 0 ∷ 0 ∷ 255 ∷ 255 ∷ 255 ∷ 255 ∷ 255 ∷ 255 ∷ 0 ∷
      0 ∷ 0 ∷ 255 ∷ 255 ∷ 255 ∷ 255 ∷ 255 ∷ 0 ∷ 255 ∷ 0 ∷ 255 ∷ [];
  expected = 245 ∷ 0 ∷ 0 ∷ 255 ∷ 255 ∷ 0 ∷ 255 ∷ 255 ∷ 255 ∷ 0 ∷ 0 ∷ 255 ∷ 0 ∷ 255 ∷ 255 ∷ 0 ∷ 143 ∷ 98 ∷ 255 ∷ 183 ∷ 255 ∷ 0 ∷ 255 ∷ 0 ∷ 173 ∷ 0 ∷ 255 ∷ 255 ∷
      255 ∷ 0 ∷ 255 ∷ 0 ∷ [];
}

unit17-holds : holds unit17 ≡ true
unfolding holds final same map_from class_map unit17 sum_z sum_n rounded term bin feature skip_sum bins_of index_of sample_at luma_at class_of final_sample
unit17-holds = refl

unit18 : Vector
unit18 = record {
  op = Pretrained;
  given = record {
    w = 8;
    h = 4;
    edges = 27;
    stride = 13;
    luma_stride = 5;
    off = 2;
    top_off = 5;
    bottom_off = 6;
    luma_off = 1;
    luma_top_off = 7;
    luma_bottom_off = 5;
    ss_hor = 0;
    ss_ver = 0;
    kind = 0;
  };
  lent = record {
    left = 102 ∷ 104 ∷ 124 ∷ 113 ∷ 121 ∷ 111 ∷ 121 ∷ 113 ∷ 104 ∷ 108 ∷ 116 ∷ 101 ∷ 98 ∷ 95 ∷ 97 ∷ 109 ∷ 125 ∷ 106 ∷ 104 ∷ 112 ∷ 104 ∷ 93 ∷ 106 ∷ 109 ∷ [];
    top = 124 ∷ 101 ∷ 102 ∷ 118 ∷ 113 ∷ 111 ∷ 98 ∷ 90 ∷ 109 ∷ 97 ∷ 121 ∷ 119 ∷ 126 ∷ 96 ∷ 126 ∷ 100 ∷ 97 ∷ 114 ∷ 120 ∷ 110 ∷ 122 ∷ 108 ∷ 126 ∷ 114 ∷ 118 ∷ 95 ∷
        116 ∷ 125 ∷ 105 ∷ 113 ∷ 116 ∷ 118 ∷ 98 ∷ 120 ∷ 104 ∷ 96 ∷ 124 ∷ 98 ∷ 106 ∷ 102 ∷ 108 ∷ 121 ∷ 121 ∷ 109 ∷ 93 ∷ 113 ∷ 99 ∷ 93 ∷ 92 ∷ 109 ∷ 95 ∷ 105 ∷
        123 ∷ 101 ∷ 118 ∷ 114 ∷ [];
    bottom = 124 ∷ 107 ∷ 110 ∷ 114 ∷ 117 ∷ 105 ∷ 115 ∷ 92 ∷ 110 ∷ 125 ∷ 101 ∷ 91 ∷ 99 ∷ 118 ∷ 120 ∷ 112 ∷ 120 ∷ 109 ∷ 125 ∷ 107 ∷ 105 ∷ 95 ∷ 114 ∷ 109 ∷ 118 ∷
        112 ∷ 109 ∷ 117 ∷ 90 ∷ 119 ∷ 126 ∷ [];
    luma_plane = [];
    luma_top = [];
    luma_bottom = [];
    skip = 0 ∷ 0 ∷ 0 ∷ 0 ∷ [];
    noskip = 51455 ∷ [];
    map = class_map;
    subclass = 2 ∷ 0 ∷ 0 ∷ 1 ∷ 2 ∷ 1 ∷ 0 ∷ 2 ∷ 2 ∷ 2 ∷ 1 ∷ 2 ∷ 0 ∷ 1 ∷ 1 ∷ 0 ∷ 2 ∷ 1 ∷ 1 ∷ 0 ∷ 0 ∷ 0 ∷ 1 ∷ 0 ∷ 1 ∷ 2 ∷ 2 ∷ 0 ∷ 0 ∷ 1 ∷ 2 ∷ 1 ∷ 1 ∷ 1 ∷ 2 ∷ 2 ∷ 1 ∷
        2 ∷ 2 ∷ 1 ∷ 1 ∷ 0 ∷ 0 ∷ 1 ∷ 1 ∷ 2 ∷ 2 ∷ 0 ∷ 0 ∷ 0 ∷ 1 ∷ 1 ∷ 1 ∷ 2 ∷ 0 ∷ 0 ∷ 2 ∷ 0 ∷ 2 ∷ 1 ∷ 2 ∷ 2 ∷ 2 ∷ 0 ∷ [];
    filters = pos 0 ∷ negsuc 1 ∷ pos 0 ∷ pos 0 ∷ pos 0 ∷ pos 1 ∷ negsuc 1 ∷ pos 2 ∷ pos 0 ∷ pos 1 ∷ pos 3 ∷ negsuc 0 ∷ negsuc 2 ∷ negsuc 3 ∷ pos 3 ∷ negsuc 17 ∷
        negsuc 4 ∷ negsuc 12 ∷ pos 14 ∷ pos 18 ∷ negsuc 13 ∷ negsuc 17 ∷ pos 16 ∷ negsuc 15 ∷ negsuc 10 ∷ pos 5 ∷ pos 19 ∷ pos 20 ∷ negsuc 10 ∷ pos 0 ∷
        pos 0 ∷ negsuc 1 ∷ negsuc 17 ∷ negsuc 2 ∷ pos 4 ∷ pos 5 ∷ pos 3 ∷ negsuc 5 ∷ pos 14 ∷ [];
    q = negsuc 22006;
  };
  plane = 121 ∷ 118 ∷ 109 ∷ 93 ∷ 109 ∷ 120 ∷ 113 ∷ 123 ∷ 106 ∷ 124 ∷ 106 ∷ 102 ∷ 120 ∷ 122 ∷ 119 ∷ 96 ∷ 117 ∷ 106 ∷ 122 ∷ 116 ∷ 113 ∷ 91 ∷ 120 ∷ 94 ∷ 97 ∷
      115 ∷ 90 ∷ 99 ∷ 124 ∷ 101 ∷ 120 ∷ 116 ∷ 93 ∷ 119 ∷ 104 ∷ 109 ∷ 95 ∷ 114 ∷ 124 ∷ 104 ∷ 111 ∷ 125 ∷ 107 ∷ 91 ∷ 97 ∷ 99 ∷ 106 ∷ 110 ∷ 110 ∷ 116 ∷ 99 ∷
      110 ∷ 108 ∷ [];
  expected = 0 ∷ 0 ∷ 0 ∷ 0 ∷ 33 ∷ 34 ∷ 29 ∷ 35 ∷ 0 ∷ 0 ∷ 0 ∷ 0 ∷ 36 ∷ 38 ∷ 29 ∷ 30 ∷ 0 ∷ 0 ∷ 0 ∷ 0 ∷ 30 ∷ 31 ∷ 26 ∷ 26 ∷ 0 ∷ 0 ∷ 0 ∷ 0 ∷ 19 ∷ 28 ∷ 29 ∷ 35 ∷ [];
}

unit18-holds : holds unit18 ≡ true
unfolding holds final same map_from class_map unit18 sum_z sum_n rounded term bin feature skip_sum bins_of index_of sample_at luma_at class_of final_sample
unit18-holds = refl

unit19 : Vector
unit19 = record {
  op = Chroma;
  given = record {
    w = 8;
    h = 4;
    edges = 26;
    stride = 13;
    luma_stride = 14;
    off = 4;
    top_off = 4;
    bottom_off = 2;
    luma_off = 28;
    luma_top_off = 3;
    luma_bottom_off = 1;
    ss_hor = 0;
    ss_ver = 0;
    kind = 0;
  };
  lent = record {
    left = [];
    top = 255 ∷ 255 ∷ 255 ∷ 212 ∷ 211 ∷ 255 ∷ 207 ∷ 222 ∷ 255 ∷ 255 ∷ 255 ∷ 255 ∷ 255 ∷ 214 ∷ 214 ∷ 223 ∷ 243 ∷ 255 ∷ 255 ∷ 255 ∷ 196 ∷ 220 ∷ 251 ∷ 225 ∷ 224 ∷
        218 ∷ 220 ∷ [];
    bottom = 138 ∷ 237 ∷ 41 ∷ 180 ∷ 188 ∷ 149 ∷ 245 ∷ 69 ∷ 206 ∷ 239 ∷ 221 ∷ 187 ∷ 220 ∷ 137 ∷ 88 ∷ 40 ∷ 48 ∷ 29 ∷ 103 ∷ 167 ∷ 224 ∷ 53 ∷ 178 ∷ 137 ∷ 22 ∷ [];
    luma_plane = 141 ∷ 54 ∷ 240 ∷ 150 ∷ 18 ∷ 26 ∷ 12 ∷ 245 ∷ 182 ∷ 13 ∷ 37 ∷ 85 ∷ 196 ∷ 46 ∷ 239 ∷ 30 ∷ 41 ∷ 141 ∷ 16 ∷ 9 ∷ 219 ∷ 111 ∷ 83 ∷ 162 ∷ 133 ∷ 235 ∷ 156 ∷
        30 ∷ 227 ∷ 244 ∷ 165 ∷ 249 ∷ 55 ∷ 187 ∷ 96 ∷ 22 ∷ 79 ∷ 161 ∷ 235 ∷ 175 ∷ 229 ∷ 83 ∷ 46 ∷ 184 ∷ 154 ∷ 19 ∷ 157 ∷ 128 ∷ 141 ∷ 226 ∷ 211 ∷ 127 ∷ 254 ∷
        156 ∷ 153 ∷ 19 ∷ 52 ∷ 239 ∷ 153 ∷ 151 ∷ 170 ∷ 162 ∷ 239 ∷ 63 ∷ 161 ∷ 223 ∷ 131 ∷ 52 ∷ 172 ∷ 12 ∷ 204 ∷ 157 ∷ 238 ∷ 198 ∷ 127 ∷ 114 ∷ 193 ∷ 119 ∷
        180 ∷ 136 ∷ 224 ∷ 147 ∷ [];
    luma_top = [];
    luma_bottom = 163 ∷ 217 ∷ 220 ∷ 126 ∷ 128 ∷ 195 ∷ 175 ∷ 174 ∷ 151 ∷ 133 ∷ 203 ∷ 190 ∷ 202 ∷ 198 ∷ 173 ∷ 219 ∷ 239 ∷ 146 ∷ 215 ∷ 168 ∷ 191 ∷ 224 ∷ 179 ∷ 127 ∷ 169 ∷
        125 ∷ 235 ∷ 221 ∷ [];
    skip = 1802 ∷ 16390 ∷ 8202 ∷ 24831 ∷ [];
    noskip = [];
    map = [];
    subclass = [];
    filters = pos 56 ∷ negsuc 37 ∷ negsuc 8 ∷ negsuc 101 ∷ pos 10 ∷ pos 88 ∷ pos 72 ∷ pos 51 ∷ pos 84 ∷ pos 7 ∷ pos 84 ∷ negsuc 29 ∷ negsuc 124 ∷ pos 14 ∷
        negsuc 79 ∷ pos 16 ∷ negsuc 99 ∷ negsuc 43 ∷ [];
    q = pos 0;
  };
  plane = 172 ∷ 191 ∷ 14 ∷ 37 ∷ 14 ∷ 71 ∷ 40 ∷ 157 ∷ 115 ∷ 1 ∷ 190 ∷ 44 ∷ 107 ∷ 220 ∷ 225 ∷ 97 ∷ 79 ∷ 173 ∷ 33 ∷ 36 ∷ 185 ∷ 64 ∷ 131 ∷ 169 ∷ 4 ∷ 133 ∷ 13 ∷ 1 ∷
      195 ∷ 114 ∷ 123 ∷ 96 ∷ 195 ∷ 47 ∷ 192 ∷ 137 ∷ 80 ∷ 76 ∷ 202 ∷ 66 ∷ 136 ∷ 2 ∷ 16 ∷ 238 ∷ 232 ∷ 90 ∷ 130 ∷ 15 ∷ 139 ∷ 1 ∷ 170 ∷ 115 ∷ 175 ∷ 35 ∷ 198 ∷
      21 ∷ [];
  expected = 80 ∷ 0 ∷ 50 ∷ 110 ∷ 115 ∷ 1 ∷ 190 ∷ 44 ∷ 77 ∷ 255 ∷ 0 ∷ 175 ∷ 64 ∷ 131 ∷ 169 ∷ 4 ∷ 210 ∷ 144 ∷ 255 ∷ 85 ∷ 192 ∷ 137 ∷ 80 ∷ 76 ∷ 137 ∷ 255 ∷ 152 ∷
      90 ∷ 15 ∷ 139 ∷ 1 ∷ 170 ∷ [];
}

unit19-holds : holds unit19 ≡ true
unfolding holds final same map_from class_map unit19 sum_z sum_n rounded term bin feature skip_sum bins_of index_of sample_at luma_at class_of final_sample
unit19-holds = refl

unit20 : Vector
unit20 = record {
  op = Chroma;
  given = record {
    w = 8;
    h = 4;
    edges = 37;
    stride = 10;
    luma_stride = 7;
    off = 3;
    top_off = 5;
    bottom_off = 6;
    luma_off = 4;
    luma_top_off = 6;
    luma_bottom_off = 2;
    ss_hor = 1;
    ss_ver = 0;
    kind = 1;
  };
  lent = record {
    left = 0 ∷ 51 ∷ 20 ∷ 144 ∷ 239 ∷ 106 ∷ 163 ∷ 118 ∷ 105 ∷ 241 ∷ 101 ∷ 61 ∷ 60 ∷ 62 ∷ 189 ∷ 171 ∷ 40 ∷ 229 ∷ 36 ∷ 152 ∷ 76 ∷ 181 ∷ 206 ∷ 205 ∷ [];
    top = 255 ∷ 255 ∷ 255 ∷ 0 ∷ 255 ∷ 0 ∷ 255 ∷ 0 ∷ 255 ∷ 255 ∷ 0 ∷ 0 ∷ 0 ∷ 255 ∷ 255 ∷ 0 ∷ 0 ∷ 255 ∷ 255 ∷ 0 ∷ 255 ∷ 0 ∷ 0 ∷ [];
    bottom = [];
    luma_plane = 255 ∷ 0 ∷ 255 ∷ 0 ∷ 0 ∷ 255 ∷ 0 ∷ 255 ∷ 0 ∷ 0 ∷ 255 ∷ 255 ∷ 255 ∷ 255 ∷ 255 ∷ 0 ∷ 255 ∷ 0 ∷ 255 ∷ 0 ∷ 0 ∷ 255 ∷ 255 ∷ 0 ∷ 0 ∷ 0 ∷ 0 ∷ 0 ∷ 0 ∷ 0 ∷ 0 ∷
        0 ∷ 255 ∷ 255 ∷ 0 ∷ 0 ∷ 0 ∷ 0 ∷ 255 ∷ 0 ∷ 255 ∷ 0 ∷ 255 ∷ 0 ∷ 255 ∷ 0 ∷ 255 ∷ 255 ∷ 0 ∷ 0 ∷ 255 ∷ 0 ∷ 255 ∷ 0 ∷ 255 ∷ 255 ∷ [];
    luma_top = 65 ∷ 84 ∷ 29 ∷ 20 ∷ 98 ∷ 17 ∷ 74 ∷ 26 ∷ 49 ∷ 0 ∷ 74 ∷ 101 ∷ 107 ∷ 73 ∷ 67 ∷ 28 ∷ 24 ∷ 73 ∷ 45 ∷ 78 ∷ 5 ∷ 71 ∷ 82 ∷ 23 ∷ 62 ∷ 100 ∷ 8 ∷ 25 ∷ 75 ∷ 61 ∷ [];
    luma_bottom = [];
    skip = 61520 ∷ 54935 ∷ 28009 ∷ 49233 ∷ [];
    noskip = [];
    map = [];
    subclass = [];
    filters = negsuc 4 ∷ pos 11 ∷ negsuc 19 ∷ negsuc 0 ∷ pos 17 ∷ pos 4 ∷ pos 14 ∷ negsuc 15 ∷ pos 11 ∷ pos 17 ∷ negsuc 15 ∷ pos 9 ∷ pos 10 ∷ pos 2 ∷ negsuc 16 ∷
        pos 18 ∷ pos 2 ∷ negsuc 3 ∷ [];
    q = pos 0;
  };
  plane = 255 ∷ 0 ∷ 0 ∷ 255 ∷ 0 ∷ 255 ∷ 0 ∷ 255 ∷ 255 ∷ 0 ∷ 255 ∷ 0 ∷ 255 ∷ 255 ∷ 0 ∷ 255 ∷ 255 ∷ 255 ∷ 0 ∷ 255 ∷ 255 ∷ 0 ∷ 255 ∷ 0 ∷ 255 ∷ 0 ∷ 255 ∷ 255 ∷
      255 ∷ 0 ∷ 0 ∷ 0 ∷ 255 ∷ 0 ∷ 255 ∷ 255 ∷ 0 ∷ 255 ∷ 0 ∷ 255 ∷ 255 ∷ 255 ∷ 255 ∷ 0 ∷ 255 ∷ 255 ∷ 0 ∷ 0 ∷ 255 ∷ 255 ∷ 255 ∷ 255 ∷ 255 ∷ 255 ∷ 0 ∷ 255 ∷
      255 ∷ 255 ∷ 0 ∷ 255 ∷ 255 ∷ 0 ∷ [];
  expected = 204 ∷ 113 ∷ 191 ∷ 0 ∷ 251 ∷ 255 ∷ 0 ∷ 182 ∷ 194 ∷ 0 ∷ 255 ∷ 216 ∷ 243 ∷ 0 ∷ 255 ∷ 255 ∷ 0 ∷ 222 ∷ 46 ∷ 179 ∷ 255 ∷ 223 ∷ 48 ∷ 0 ∷ 84 ∷ 255 ∷ 215 ∷
      141 ∷ 129 ∷ 22 ∷ 255 ∷ 255 ∷ [];
}

unit20-holds : holds unit20 ≡ true
unfolding holds final same map_from class_map unit20 sum_z sum_n rounded term bin feature skip_sum bins_of index_of sample_at luma_at class_of final_sample
unit20-holds = refl

unit21 : Vector
unit21 = record {
  op = Chroma;
  given = record {
    w = 8;
    h = 4;
    edges = 0;
    stride = 9;
    luma_stride = 5;
    off = 2;
    top_off = 8;
    bottom_off = 4;
    luma_off = 2;
    luma_top_off = 3;
    luma_bottom_off = 2;
    ss_hor = 1;
    ss_ver = 1;
    kind = 0;
  };
  lent = record {
    left = [];
    top = [];
    bottom = [];
    luma_plane = 94 ∷ 60 ∷ 73 ∷ 84 ∷ 68 ∷ 49 ∷ 58 ∷ 91 ∷ 49 ∷ 74 ∷ 15 ∷ 73 ∷ 95 ∷ 115 ∷ 30 ∷ 10 ∷ 108 ∷ 42 ∷ 55 ∷ 17 ∷ 112 ∷ 32 ∷ 93 ∷ 100 ∷ 78 ∷ 43 ∷ 27 ∷ 40 ∷ 81 ∷
        104 ∷ 116 ∷ 42 ∷ 69 ∷ 0 ∷ 80 ∷ 55 ∷ 112 ∷ 52 ∷ 31 ∷ 0 ∷ 22 ∷ 4 ∷ 90 ∷ 101 ∷ 64 ∷ 4 ∷ 25 ∷ 89 ∷ 72 ∷ 53 ∷ 85 ∷ 56 ∷ 21 ∷ [];
    luma_top = [];
    luma_bottom = [];
    skip = 49854 ∷ 19674 ∷ 14846 ∷ 679 ∷ [];
    noskip = [];
    map = [];
    subclass = [];
    filters = pos 2 ∷ pos 0 ∷ pos 4 ∷ pos 0 ∷ pos 0 ∷ pos 1 ∷ pos 0 ∷ negsuc 2 ∷ pos 0 ∷ negsuc 3 ∷ pos 0 ∷ pos 4 ∷ pos 0 ∷ pos 0 ∷ pos 0 ∷ pos 2 ∷ pos 0 ∷ pos 0 ∷ [];
    q = pos 0;
  };
  plane = 200 ∷ 200 ∷ 203 ∷ 203 ∷ 200 ∷ 201 ∷ 202 ∷ 211 ∷ 202 ∷ 209 ∷ 200 ∷ 205 ∷ 208 ∷ 201 ∷ 207 ∷ 208 ∷ 210 ∷ 205 ∷ 207 ∷ 199 ∷ 210 ∷ 208 ∷ 202 ∷ 208 ∷ 200 ∷
      210 ∷ 199 ∷ 207 ∷ 210 ∷ 201 ∷ 202 ∷ 210 ∷ 201 ∷ 206 ∷ 204 ∷ 201 ∷ 208 ∷ [];
  expected = 203 ∷ 203 ∷ 200 ∷ 201 ∷ 202 ∷ 211 ∷ 202 ∷ 209 ∷ 205 ∷ 207 ∷ 202 ∷ 207 ∷ 208 ∷ 210 ∷ 205 ∷ 207 ∷ 209 ∷ 208 ∷ 201 ∷ 208 ∷ 200 ∷ 210 ∷ 199 ∷ 207 ∷ 202 ∷
      203 ∷ 211 ∷ 201 ∷ 206 ∷ 204 ∷ 201 ∷ 208 ∷ [];
}

unit21-holds : holds unit21 ≡ true
unfolding holds final same map_from class_map unit21 sum_z sum_n rounded term bin feature skip_sum bins_of index_of sample_at luma_at class_of final_sample
unit21-holds = refl

unit22 : Vector
unit22 = record {
  op = Chroma;
  given = record {
    w = 8;
    h = 4;
    edges = 7;
    stride = 11;
    luma_stride = 20;
    off = 1;
    top_off = 2;
    bottom_off = 7;
    luma_off = 7;
    luma_top_off = 5;
    luma_bottom_off = 7;
    ss_hor = 1;
    ss_ver = 1;
    kind = 1;
  };
  lent = record {
    left = 255 ∷ 0 ∷ 255 ∷ 0 ∷ 0 ∷ 0 ∷ 255 ∷ 0 ∷ 255 ∷ 0 ∷ 255 ∷ 255 ∷ 0 ∷ 0 ∷ 0 ∷ 255 ∷ 0 ∷ 255 ∷ 0 ∷ 255 ∷ 255 ∷ 255 ∷ 255 ∷ 255 ∷ [];
    top = 114 ∷ 182 ∷ 9 ∷ 77 ∷ 174 ∷ 69 ∷ 37 ∷ 220 ∷ 116 ∷ 46 ∷ 216 ∷ 58 ∷ 202 ∷ 179 ∷ 101 ∷ 254 ∷ 209 ∷ 97 ∷ 106 ∷ 112 ∷ 252 ∷ 196 ∷ 104 ∷ [];
    bottom = [];
    luma_plane = 0 ∷ 255 ∷ 255 ∷ 0 ∷ 0 ∷ 0 ∷ 0 ∷ 0 ∷ 0 ∷ 255 ∷ 0 ∷ 0 ∷ 255 ∷ 255 ∷ 255 ∷ 255 ∷ 0 ∷ 0 ∷ 0 ∷ 255 ∷ 0 ∷ 255 ∷ 255 ∷ 255 ∷ 255 ∷ 255 ∷ 0 ∷ 255 ∷ 255 ∷ 0 ∷
        0 ∷ 0 ∷ 255 ∷ 0 ∷ 255 ∷ 0 ∷ 255 ∷ 0 ∷ 255 ∷ 0 ∷ 255 ∷ 0 ∷ 255 ∷ 255 ∷ 255 ∷ 255 ∷ 255 ∷ 255 ∷ 255 ∷ 255 ∷ 0 ∷ 0 ∷ 255 ∷ 255 ∷ 255 ∷ 255 ∷ 0 ∷ 255 ∷
        0 ∷ 255 ∷ 0 ∷ 255 ∷ 0 ∷ 255 ∷ 0 ∷ 0 ∷ 255 ∷ 255 ∷ 255 ∷ 0 ∷ 255 ∷ 255 ∷ 255 ∷ 0 ∷ 0 ∷ 0 ∷ 255 ∷ 255 ∷ 0 ∷ 255 ∷ 0 ∷ 255 ∷ 0 ∷ 255 ∷ 255 ∷ 255 ∷ 255 ∷
        255 ∷ 255 ∷ 0 ∷ 255 ∷ 255 ∷ 0 ∷ 255 ∷ 0 ∷ 255 ∷ 255 ∷ 0 ∷ 255 ∷ 255 ∷ 0 ∷ 0 ∷ 255 ∷ 0 ∷ 0 ∷ 0 ∷ 255 ∷ 0 ∷ 0 ∷ 255 ∷ 255 ∷ 255 ∷ 255 ∷ 255 ∷ 0 ∷ 0 ∷
        255 ∷ 255 ∷ 255 ∷ 0 ∷ 0 ∷ 0 ∷ 255 ∷ 255 ∷ 255 ∷ 0 ∷ 0 ∷ 255 ∷ 255 ∷ 0 ∷ 0 ∷ 0 ∷ 0 ∷ 255 ∷ 0 ∷ 0 ∷ 0 ∷ 0 ∷ 255 ∷ 255 ∷ 255 ∷ 0 ∷ 0 ∷ 0 ∷ 0 ∷ 0 ∷ 0 ∷
        255 ∷ 255 ∷ 255 ∷ 255 ∷ 0 ∷ 0 ∷ 255 ∷ 0 ∷ 0 ∷ 0 ∷ 0 ∷ 255 ∷ 255 ∷ 255 ∷ 255 ∷ 255 ∷ 255 ∷ 0 ∷ 255 ∷ 0 ∷ 0 ∷ [];
    luma_top = 67 ∷ 67 ∷ 67 ∷ 63 ∷ 66 ∷ 66 ∷ 70 ∷ 71 ∷ 65 ∷ 71 ∷ 68 ∷ 68 ∷ 68 ∷ 59 ∷ 65 ∷ 66 ∷ 59 ∷ 63 ∷ 62 ∷ 63 ∷ 70 ∷ 63 ∷ 61 ∷ 71 ∷ 68 ∷ 63 ∷ 62 ∷ 67 ∷ 67 ∷ 71 ∷
        66 ∷ 68 ∷ 70 ∷ 71 ∷ 64 ∷ 60 ∷ 67 ∷ 59 ∷ 64 ∷ 66 ∷ 70 ∷ 63 ∷ 70 ∷ 65 ∷ 66 ∷ [];
    luma_bottom = [];
    skip = 0 ∷ 0 ∷ 0 ∷ 0 ∷ [];
    noskip = [];
    map = [];
    subclass = [];
    filters = pos 0 ∷ pos 127 ∷ negsuc 127 ∷ pos 127 ∷ pos 127 ∷ pos 0 ∷ pos 127 ∷ negsuc 127 ∷ negsuc 127 ∷ pos 0 ∷ pos 0 ∷ pos 127 ∷ negsuc 127 ∷ negsuc 127 ∷
        negsuc 127 ∷ pos 127 ∷ pos 0 ∷ pos 127 ∷ [];
    q = pos 0;
  };
  plane = 200 ∷ 92 ∷ 107 ∷ 192 ∷ 164 ∷ 135 ∷ 203 ∷ 177 ∷ 125 ∷ 158 ∷ 181 ∷ 140 ∷ 197 ∷ 202 ∷ 104 ∷ 166 ∷ 160 ∷ 187 ∷ 108 ∷ 155 ∷ 118 ∷ 188 ∷ 122 ∷ 151 ∷ 145 ∷
      120 ∷ 138 ∷ 187 ∷ 114 ∷ 188 ∷ 149 ∷ 92 ∷ 155 ∷ 136 ∷ 95 ∷ 203 ∷ 95 ∷ 190 ∷ 165 ∷ 149 ∷ 159 ∷ 181 ∷ 146 ∷ 142 ∷ [];
  expected = 70 ∷ 255 ∷ 0 ∷ 0 ∷ 63 ∷ 110 ∷ 255 ∷ 98 ∷ 255 ∷ 202 ∷ 255 ∷ 0 ∷ 135 ∷ 199 ∷ 0 ∷ 85 ∷ 130 ∷ 0 ∷ 64 ∷ 255 ∷ 0 ∷ 210 ∷ 97 ∷ 0 ∷ 255 ∷ 0 ∷ 0 ∷ 255 ∷ 56 ∷
      255 ∷ 255 ∷ 17 ∷ [];
}

unit22-holds : holds unit22 ≡ true
unfolding holds final same map_from class_map unit22 sum_z sum_n rounded term bin feature skip_sum bins_of index_of sample_at luma_at class_of final_sample
unit22-holds = refl

unit23 : Vector
unit23 = record {
  op = Chroma;
  given = record {
    w = 4;
    h = 8;
    edges = 10;
    stride = 8;
    luma_stride = 6;
    off = 2;
    top_off = 4;
    bottom_off = 2;
    luma_off = 4;
    luma_top_off = 6;
    luma_bottom_off = 1;
    ss_hor = 1;
    ss_ver = 1;
    kind = 2;
  };
  lent = record {
    left = [];
    top = [];
    bottom = 0 ∷ 55 ∷ 80 ∷ 217 ∷ 46 ∷ 110 ∷ 187 ∷ 133 ∷ 134 ∷ 181 ∷ 224 ∷ 51 ∷ 184 ∷ 240 ∷ 183 ∷ 62 ∷ 143 ∷ [];
    luma_plane = 173 ∷ 134 ∷ 101 ∷ 146 ∷ 83 ∷ 72 ∷ 99 ∷ 105 ∷ 160 ∷ 96 ∷ 62 ∷ 162 ∷ 91 ∷ 79 ∷ 125 ∷ 180 ∷ 159 ∷ 169 ∷ 114 ∷ 127 ∷ 72 ∷ 137 ∷ 119 ∷ 94 ∷ 129 ∷ 97 ∷
        143 ∷ 63 ∷ 83 ∷ 65 ∷ 109 ∷ 107 ∷ 79 ∷ 78 ∷ 145 ∷ 90 ∷ 128 ∷ 97 ∷ 99 ∷ 173 ∷ 95 ∷ 120 ∷ 64 ∷ 89 ∷ 164 ∷ 143 ∷ 163 ∷ 164 ∷ 152 ∷ 110 ∷ 149 ∷ 135 ∷
        115 ∷ 174 ∷ 71 ∷ 135 ∷ 103 ∷ 98 ∷ 150 ∷ 68 ∷ 154 ∷ 70 ∷ 117 ∷ 137 ∷ 83 ∷ 152 ∷ 150 ∷ 171 ∷ 136 ∷ 111 ∷ 114 ∷ 114 ∷ 144 ∷ 159 ∷ 121 ∷ 125 ∷ 85 ∷ 148 ∷
        92 ∷ 138 ∷ 69 ∷ 109 ∷ 156 ∷ 175 ∷ 124 ∷ 76 ∷ 161 ∷ 110 ∷ 92 ∷ 124 ∷ 128 ∷ 112 ∷ 79 ∷ 150 ∷ 175 ∷ 75 ∷ 162 ∷ 144 ∷ 123 ∷ 140 ∷ [];
    luma_top = [];
    luma_bottom = 0 ∷ 0 ∷ 255 ∷ 0 ∷ 255 ∷ 255 ∷ 255 ∷ 255 ∷ 0 ∷ 255 ∷ 0 ∷ 0 ∷ 255 ∷ 0 ∷ 255 ∷ 0 ∷ 255 ∷ 0 ∷ 0 ∷ 255 ∷ [];
    skip = 64071 ∷ 43978 ∷ 12110 ∷ 22514 ∷ 24978 ∷ 56046 ∷ 42702 ∷ 27811 ∷ [];
    noskip = [];
    map = [];
    subclass = [];
    filters = pos 0 ∷ pos 127 ∷ pos 127 ∷ pos 0 ∷ pos 127 ∷ negsuc 127 ∷ pos 127 ∷ pos 0 ∷ pos 0 ∷ pos 127 ∷ negsuc 127 ∷ pos 0 ∷ negsuc 127 ∷ negsuc 127 ∷
        pos 127 ∷ negsuc 127 ∷ pos 0 ∷ negsuc 127 ∷ [];
    q = pos 0;
  };
  plane = 233 ∷ 215 ∷ 241 ∷ 210 ∷ 161 ∷ 145 ∷ 153 ∷ 221 ∷ 232 ∷ 229 ∷ 163 ∷ 204 ∷ 185 ∷ 166 ∷ 175 ∷ 173 ∷ 177 ∷ 178 ∷ 125 ∷ 127 ∷ 215 ∷ 229 ∷ 163 ∷ 143 ∷ 159 ∷
      195 ∷ 162 ∷ 231 ∷ 217 ∷ 239 ∷ 168 ∷ 222 ∷ 163 ∷ 241 ∷ 214 ∷ 234 ∷ 197 ∷ 136 ∷ 161 ∷ 235 ∷ 126 ∷ 193 ∷ 236 ∷ 176 ∷ 142 ∷ 227 ∷ 145 ∷ 154 ∷ 169 ∷ 135 ∷
      200 ∷ 145 ∷ 222 ∷ 233 ∷ 130 ∷ 240 ∷ 209 ∷ 159 ∷ 134 ∷ 216 ∷ 151 ∷ 161 ∷ 148 ∷ 203 ∷ 195 ∷ 192 ∷ 163 ∷ [];
  expected = 241 ∷ 210 ∷ 161 ∷ 145 ∷ 163 ∷ 204 ∷ 185 ∷ 166 ∷ 125 ∷ 127 ∷ 215 ∷ 229 ∷ 162 ∷ 231 ∷ 217 ∷ 239 ∷ 78 ∷ 0 ∷ 160 ∷ 255 ∷ 0 ∷ 255 ∷ 255 ∷ 40 ∷ 0 ∷ 255 ∷
      0 ∷ 0 ∷ 255 ∷ 0 ∷ 123 ∷ 81 ∷ [];
}

unit23-holds : holds unit23 ≡ true
unfolding holds final same map_from class_map unit23 sum_z sum_n rounded term bin feature skip_sum bins_of index_of sample_at luma_at class_of final_sample
unit23-holds = refl

-- What the reference makes of random luma planes, each unit over the untouched plane, beside what the definition says of the whole: every byte, and the pieces.
record PlaneVector : Type 0 where
  w : ℕ
  h : ℕ
  -- the unit size, and how many units are restored
  u : ℕ
  count : ℕ
  filter : List ℤ
  skip : List ℕ
  plane : List ℕ
  -- the list after the units were restored, with what stands behind the plane
  expected : List ℕ
  pieces : ℕ

holds_plane : PlaneVector → Bool
holds_plane v =
    same (plane_after v.w v.h v.u v.count v.plane v.skip v.filter) v.expected &&
    eqb (plane_pieces v.w v.h v.u v.count v.skip) v.pieces

plane0 : PlaneVector
plane0 = record {
  w = 12;
  h = 8;
  u = 8;
  count = 1;
  filter = pos 107 ∷ pos 60 ∷ pos 111 ∷ negsuc 80 ∷ pos 14 ∷ pos 62 ∷ pos 103 ∷ negsuc 22 ∷ pos 60 ∷ negsuc 7 ∷ pos 45 ∷ pos 75 ∷ negsuc 37 ∷ pos 34 ∷ pos 61 ∷
      negsuc 96 ∷ [];
  skip = 22394 ∷ 8377 ∷ [];
  plane = 12 ∷ 124 ∷ 60 ∷ 3 ∷ 227 ∷ 69 ∷ 203 ∷ 165 ∷ 143 ∷ 176 ∷ 196 ∷ 207 ∷ 214 ∷ 135 ∷ 153 ∷ 38 ∷ 144 ∷ 66 ∷ 56 ∷ 133 ∷ 214 ∷ 253 ∷ 21 ∷ 171 ∷ 80 ∷ 156 ∷
      253 ∷ 194 ∷ 139 ∷ 21 ∷ 133 ∷ 106 ∷ 69 ∷ 53 ∷ 124 ∷ 43 ∷ 248 ∷ 207 ∷ 22 ∷ 61 ∷ 124 ∷ 91 ∷ 180 ∷ 63 ∷ 204 ∷ 226 ∷ 156 ∷ 189 ∷ 251 ∷ 31 ∷ 132 ∷ 251 ∷
      37 ∷ 228 ∷ 152 ∷ 30 ∷ 244 ∷ 235 ∷ 234 ∷ 117 ∷ 139 ∷ 191 ∷ 163 ∷ 82 ∷ 128 ∷ 196 ∷ 141 ∷ 42 ∷ 10 ∷ 92 ∷ 20 ∷ 39 ∷ 29 ∷ 24 ∷ 94 ∷ 194 ∷ 188 ∷ 119 ∷ 76 ∷
      166 ∷ 242 ∷ 174 ∷ 230 ∷ 79 ∷ 106 ∷ 34 ∷ 238 ∷ 249 ∷ 99 ∷ 177 ∷ 226 ∷ 129 ∷ 70 ∷ 227 ∷ 61 ∷ 181 ∷ 218 ∷ 218 ∷ 251 ∷ 248 ∷ 161 ∷ [];
  expected = 255 ∷ 0 ∷ 206 ∷ 255 ∷ 227 ∷ 69 ∷ 203 ∷ 165 ∷ 143 ∷ 176 ∷ 196 ∷ 207 ∷ 0 ∷ 0 ∷ 0 ∷ 255 ∷ 144 ∷ 66 ∷ 56 ∷ 133 ∷ 214 ∷ 253 ∷ 21 ∷ 171 ∷ 255 ∷ 0 ∷ 0 ∷ 0 ∷
      139 ∷ 21 ∷ 133 ∷ 106 ∷ 69 ∷ 53 ∷ 124 ∷ 43 ∷ 0 ∷ 0 ∷ 255 ∷ 255 ∷ 124 ∷ 91 ∷ 180 ∷ 63 ∷ 204 ∷ 226 ∷ 156 ∷ 189 ∷ 251 ∷ 31 ∷ 132 ∷ 251 ∷ 255 ∷ 0 ∷ 0 ∷
      255 ∷ 244 ∷ 235 ∷ 234 ∷ 117 ∷ 139 ∷ 191 ∷ 163 ∷ 82 ∷ 152 ∷ 0 ∷ 157 ∷ 255 ∷ 10 ∷ 92 ∷ 20 ∷ 39 ∷ 29 ∷ 24 ∷ 94 ∷ 194 ∷ 49 ∷ 172 ∷ 255 ∷ 0 ∷ 242 ∷ 174 ∷
      230 ∷ 79 ∷ 106 ∷ 34 ∷ 238 ∷ 249 ∷ 255 ∷ 0 ∷ 0 ∷ 0 ∷ 70 ∷ 227 ∷ 61 ∷ 181 ∷ 218 ∷ 218 ∷ 251 ∷ 248 ∷ 161 ∷ [];
  pieces = 8;
}

plane0-holds : holds_plane plane0 ≡ true
unfolding holds_plane same plane0 sum_z sum_n rounded padded_in skip_bit final_in across unit_number plane_after piece_at plane_pieces
plane0-holds = refl

plane1 : PlaneVector
plane1 = record {
  w = 12;
  h = 8;
  u = 4;
  count = 9;
  filter = pos 107 ∷ pos 60 ∷ pos 111 ∷ negsuc 80 ∷ pos 14 ∷ pos 62 ∷ pos 103 ∷ negsuc 22 ∷ pos 60 ∷ negsuc 7 ∷ pos 45 ∷ pos 75 ∷ negsuc 37 ∷ pos 34 ∷ pos 61 ∷
      negsuc 96 ∷ [];
  skip = 22394 ∷ 8377 ∷ [];
  plane = 12 ∷ 124 ∷ 60 ∷ 3 ∷ 227 ∷ 69 ∷ 203 ∷ 165 ∷ 143 ∷ 176 ∷ 196 ∷ 207 ∷ 214 ∷ 135 ∷ 153 ∷ 38 ∷ 144 ∷ 66 ∷ 56 ∷ 133 ∷ 214 ∷ 253 ∷ 21 ∷ 171 ∷ 80 ∷ 156 ∷
      253 ∷ 194 ∷ 139 ∷ 21 ∷ 133 ∷ 106 ∷ 69 ∷ 53 ∷ 124 ∷ 43 ∷ 248 ∷ 207 ∷ 22 ∷ 61 ∷ 124 ∷ 91 ∷ 180 ∷ 63 ∷ 204 ∷ 226 ∷ 156 ∷ 189 ∷ 251 ∷ 31 ∷ 132 ∷ 251 ∷
      37 ∷ 228 ∷ 152 ∷ 30 ∷ 244 ∷ 235 ∷ 234 ∷ 117 ∷ 139 ∷ 191 ∷ 163 ∷ 82 ∷ 128 ∷ 196 ∷ 141 ∷ 42 ∷ 10 ∷ 92 ∷ 20 ∷ 39 ∷ 29 ∷ 24 ∷ 94 ∷ 194 ∷ 188 ∷ 119 ∷ 76 ∷
      166 ∷ 242 ∷ 174 ∷ 230 ∷ 79 ∷ 106 ∷ 34 ∷ 238 ∷ 249 ∷ 99 ∷ 177 ∷ 226 ∷ 129 ∷ 70 ∷ 227 ∷ 61 ∷ 181 ∷ 218 ∷ 218 ∷ 251 ∷ 248 ∷ 161 ∷ [];
  expected = 255 ∷ 0 ∷ 206 ∷ 255 ∷ 227 ∷ 69 ∷ 203 ∷ 165 ∷ 40 ∷ 69 ∷ 0 ∷ 0 ∷ 0 ∷ 0 ∷ 0 ∷ 255 ∷ 144 ∷ 66 ∷ 56 ∷ 133 ∷ 0 ∷ 0 ∷ 255 ∷ 0 ∷ 255 ∷ 0 ∷ 0 ∷ 0 ∷ 139 ∷ 21 ∷
      133 ∷ 106 ∷ 255 ∷ 255 ∷ 234 ∷ 255 ∷ 0 ∷ 0 ∷ 255 ∷ 255 ∷ 124 ∷ 91 ∷ 180 ∷ 63 ∷ 0 ∷ 0 ∷ 0 ∷ 0 ∷ 251 ∷ 31 ∷ 132 ∷ 251 ∷ 255 ∷ 0 ∷ 0 ∷ 255 ∷ 0 ∷ 0 ∷ 0 ∷
      77 ∷ 139 ∷ 191 ∷ 163 ∷ 82 ∷ 152 ∷ 0 ∷ 157 ∷ 255 ∷ 255 ∷ 255 ∷ 255 ∷ 255 ∷ 29 ∷ 24 ∷ 94 ∷ 194 ∷ 49 ∷ 172 ∷ 255 ∷ 0 ∷ 0 ∷ 2 ∷ 0 ∷ 255 ∷ 106 ∷ 34 ∷
      238 ∷ 249 ∷ 255 ∷ 0 ∷ 0 ∷ 0 ∷ 255 ∷ 0 ∷ 255 ∷ 0 ∷ 218 ∷ 218 ∷ 251 ∷ 248 ∷ 161 ∷ [];
  pieces = 16;
}

plane1-holds : holds_plane plane1 ≡ true
unfolding holds_plane same plane1 sum_z sum_n rounded padded_in skip_bit final_in across unit_number plane_after piece_at plane_pieces
plane1-holds = refl

plane2 : PlaneVector
plane2 = record {
  w = 68;
  h = 8;
  u = 12;
  count = 6;
  filter = negsuc 1 ∷ pos 5 ∷ negsuc 8 ∷ negsuc 13 ∷ negsuc 4 ∷ pos 7 ∷ pos 19 ∷ negsuc 12 ∷ pos 6 ∷ pos 13 ∷ negsuc 4 ∷ negsuc 10 ∷ negsuc 17 ∷ pos 13 ∷
      pos 16 ∷ pos 19 ∷ [];
  skip = 42337 ∷ 22492 ∷ 11964 ∷ 35573 ∷ [];
  plane = 255 ∷ 222 ∷ 209 ∷ 224 ∷ 195 ∷ 220 ∷ 223 ∷ 227 ∷ 249 ∷ 255 ∷ 182 ∷ 223 ∷ 194 ∷ 255 ∷ 255 ∷ 235 ∷ 211 ∷ 224 ∷ 255 ∷ 253 ∷ 189 ∷ 224 ∷ 216 ∷ 173 ∷ 235 ∷
      255 ∷ 239 ∷ 238 ∷ 197 ∷ 242 ∷ 188 ∷ 255 ∷ 247 ∷ 255 ∷ 255 ∷ 206 ∷ 255 ∷ 219 ∷ 166 ∷ 172 ∷ 237 ∷ 255 ∷ 255 ∷ 255 ∷ 176 ∷ 223 ∷ 255 ∷ 204 ∷ 255 ∷ 255 ∷
      234 ∷ 226 ∷ 180 ∷ 255 ∷ 255 ∷ 255 ∷ 255 ∷ 255 ∷ 252 ∷ 173 ∷ 185 ∷ 203 ∷ 210 ∷ 249 ∷ 255 ∷ 221 ∷ 244 ∷ 237 ∷ 197 ∷ 236 ∷ 167 ∷ 179 ∷ 235 ∷ 255 ∷ 239 ∷
      254 ∷ 243 ∷ 181 ∷ 253 ∷ 255 ∷ 223 ∷ 201 ∷ 254 ∷ 214 ∷ 200 ∷ 167 ∷ 218 ∷ 242 ∷ 164 ∷ 248 ∷ 216 ∷ 221 ∷ 177 ∷ 255 ∷ 197 ∷ 188 ∷ 171 ∷ 231 ∷ 255 ∷ 231 ∷
      197 ∷ 250 ∷ 241 ∷ 210 ∷ 255 ∷ 209 ∷ 166 ∷ 255 ∷ 255 ∷ 255 ∷ 219 ∷ 255 ∷ 255 ∷ 255 ∷ 165 ∷ 255 ∷ 255 ∷ 255 ∷ 213 ∷ 249 ∷ 242 ∷ 240 ∷ 255 ∷ 255 ∷ 255 ∷
      255 ∷ 199 ∷ 197 ∷ 247 ∷ 255 ∷ 255 ∷ 255 ∷ 190 ∷ 234 ∷ 255 ∷ 202 ∷ 235 ∷ 245 ∷ 171 ∷ 255 ∷ 252 ∷ 170 ∷ 200 ∷ 241 ∷ 188 ∷ 216 ∷ 238 ∷ 255 ∷ 216 ∷ 199 ∷
      177 ∷ 165 ∷ 221 ∷ 214 ∷ 255 ∷ 167 ∷ 168 ∷ 255 ∷ 245 ∷ 169 ∷ 164 ∷ 170 ∷ 228 ∷ 221 ∷ 255 ∷ 250 ∷ 255 ∷ 255 ∷ 233 ∷ 214 ∷ 249 ∷ 255 ∷ 244 ∷ 245 ∷ 180 ∷
      255 ∷ 178 ∷ 253 ∷ 170 ∷ 255 ∷ 164 ∷ 169 ∷ 194 ∷ 171 ∷ 217 ∷ 218 ∷ 227 ∷ 173 ∷ 243 ∷ 194 ∷ 211 ∷ 241 ∷ 218 ∷ 255 ∷ 255 ∷ 216 ∷ 247 ∷ 255 ∷ 172 ∷ 237 ∷
      175 ∷ 255 ∷ 239 ∷ 210 ∷ 175 ∷ 181 ∷ 175 ∷ 255 ∷ 207 ∷ 255 ∷ 222 ∷ 255 ∷ 255 ∷ 255 ∷ 255 ∷ 191 ∷ 254 ∷ 255 ∷ 197 ∷ 242 ∷ 227 ∷ 191 ∷ 183 ∷ 251 ∷ 188 ∷
      245 ∷ 216 ∷ 218 ∷ 203 ∷ 187 ∷ 217 ∷ 170 ∷ 232 ∷ 218 ∷ 255 ∷ 175 ∷ 188 ∷ 255 ∷ 206 ∷ 218 ∷ 241 ∷ 218 ∷ 255 ∷ 219 ∷ 200 ∷ 251 ∷ 187 ∷ 251 ∷ 255 ∷ 215 ∷
      232 ∷ 165 ∷ 170 ∷ 171 ∷ 255 ∷ 249 ∷ 235 ∷ 234 ∷ 253 ∷ 255 ∷ 181 ∷ 255 ∷ 180 ∷ 228 ∷ 218 ∷ 247 ∷ 208 ∷ 255 ∷ 255 ∷ 210 ∷ 255 ∷ 255 ∷ 233 ∷ 193 ∷ 177 ∷
      189 ∷ 178 ∷ 174 ∷ 211 ∷ 232 ∷ 206 ∷ 255 ∷ 197 ∷ 175 ∷ 181 ∷ 198 ∷ 240 ∷ 255 ∷ 220 ∷ 255 ∷ 188 ∷ 255 ∷ 192 ∷ 227 ∷ 192 ∷ 187 ∷ 201 ∷ 166 ∷ 255 ∷ 180 ∷
      228 ∷ 255 ∷ 238 ∷ 255 ∷ 195 ∷ 231 ∷ 249 ∷ 248 ∷ 231 ∷ 172 ∷ 255 ∷ 190 ∷ 237 ∷ 249 ∷ 255 ∷ 255 ∷ 176 ∷ 174 ∷ 252 ∷ 249 ∷ 255 ∷ 211 ∷ 255 ∷ 211 ∷ 186 ∷
      212 ∷ 229 ∷ 245 ∷ 239 ∷ 255 ∷ 169 ∷ 255 ∷ 255 ∷ 165 ∷ 183 ∷ 235 ∷ 249 ∷ 235 ∷ 196 ∷ 212 ∷ 255 ∷ 215 ∷ 252 ∷ 168 ∷ 192 ∷ 231 ∷ 255 ∷ 169 ∷ 204 ∷ 255 ∷
      174 ∷ 237 ∷ 200 ∷ 165 ∷ 174 ∷ 198 ∷ 195 ∷ 212 ∷ 255 ∷ 183 ∷ 241 ∷ 178 ∷ 170 ∷ 178 ∷ 172 ∷ 255 ∷ 255 ∷ 192 ∷ 247 ∷ 255 ∷ 182 ∷ 222 ∷ 234 ∷ 179 ∷ 255 ∷
      225 ∷ 234 ∷ 193 ∷ 255 ∷ 197 ∷ 195 ∷ 235 ∷ 197 ∷ 201 ∷ 205 ∷ 223 ∷ 255 ∷ 167 ∷ 231 ∷ 179 ∷ 211 ∷ 207 ∷ 235 ∷ 203 ∷ 255 ∷ 255 ∷ 255 ∷ 255 ∷ 200 ∷ 215 ∷
      189 ∷ 244 ∷ 217 ∷ 251 ∷ 167 ∷ 255 ∷ 206 ∷ 206 ∷ 209 ∷ 255 ∷ 255 ∷ 170 ∷ 255 ∷ 255 ∷ 255 ∷ 221 ∷ 213 ∷ 255 ∷ 255 ∷ 251 ∷ 174 ∷ 255 ∷ 185 ∷ 242 ∷ 181 ∷
      203 ∷ 201 ∷ 209 ∷ 209 ∷ 175 ∷ 181 ∷ 255 ∷ 176 ∷ 184 ∷ 179 ∷ 234 ∷ 241 ∷ 168 ∷ 255 ∷ 230 ∷ 195 ∷ 255 ∷ 199 ∷ 221 ∷ 233 ∷ 205 ∷ 178 ∷ 185 ∷ 249 ∷ 240 ∷
      191 ∷ 201 ∷ 232 ∷ 249 ∷ 255 ∷ 186 ∷ 230 ∷ 255 ∷ 175 ∷ 255 ∷ 177 ∷ 240 ∷ 189 ∷ 255 ∷ 247 ∷ 233 ∷ 213 ∷ 219 ∷ 212 ∷ 237 ∷ 242 ∷ 221 ∷ 194 ∷ 251 ∷ 255 ∷
      197 ∷ 176 ∷ 235 ∷ 177 ∷ 205 ∷ 242 ∷ 255 ∷ 180 ∷ 178 ∷ 223 ∷ 204 ∷ 219 ∷ 220 ∷ 245 ∷ 221 ∷ 201 ∷ 246 ∷ 210 ∷ 244 ∷ 216 ∷ 255 ∷ 197 ∷ 183 ∷ 227 ∷ 255 ∷
      166 ∷ 255 ∷ 239 ∷ 255 ∷ 175 ∷ 255 ∷ 252 ∷ 203 ∷ 175 ∷ 227 ∷ 255 ∷ 232 ∷ 235 ∷ 255 ∷ 255 ∷ 255 ∷ 185 ∷ 251 ∷ 255 ∷ 255 ∷ 189 ∷ 194 ∷ 176 ∷ 199 ∷ 164 ∷
      196 ∷ 180 ∷ 172 ∷ 239 ∷ 178 ∷ 255 ∷ 233 ∷ 219 ∷ 235 ∷ 255 ∷ 201 ∷ 246 ∷ 247 ∷ 255 ∷ 218 ∷ 255 ∷ 207 ∷ 204 ∷ 206 ∷ 255 ∷ 206 ∷ 255 ∷ 255 ∷ 179 ∷ [];
  expected = 255 ∷ 222 ∷ 209 ∷ 224 ∷ 202 ∷ 218 ∷ 243 ∷ 217 ∷ 236 ∷ 251 ∷ 229 ∷ 220 ∷ 229 ∷ 237 ∷ 226 ∷ 235 ∷ 233 ∷ 217 ∷ 234 ∷ 219 ∷ 189 ∷ 224 ∷ 216 ∷ 173 ∷ 235 ∷
      255 ∷ 239 ∷ 238 ∷ 208 ∷ 217 ∷ 206 ∷ 227 ∷ 247 ∷ 255 ∷ 255 ∷ 206 ∷ 233 ∷ 233 ∷ 212 ∷ 192 ∷ 237 ∷ 255 ∷ 255 ∷ 255 ∷ 203 ∷ 233 ∷ 246 ∷ 235 ∷ 220 ∷ 255 ∷
      223 ∷ 233 ∷ 180 ∷ 255 ∷ 255 ∷ 255 ∷ 235 ∷ 244 ∷ 255 ∷ 203 ∷ 185 ∷ 203 ∷ 210 ∷ 249 ∷ 254 ∷ 229 ∷ 233 ∷ 247 ∷ 197 ∷ 236 ∷ 167 ∷ 179 ∷ 241 ∷ 246 ∷ 238 ∷
      227 ∷ 204 ∷ 169 ∷ 253 ∷ 255 ∷ 255 ∷ 175 ∷ 247 ∷ 224 ∷ 206 ∷ 171 ∷ 227 ∷ 235 ∷ 164 ∷ 248 ∷ 216 ∷ 221 ∷ 177 ∷ 255 ∷ 197 ∷ 188 ∷ 186 ∷ 245 ∷ 255 ∷ 216 ∷
      197 ∷ 250 ∷ 241 ∷ 210 ∷ 220 ∷ 242 ∷ 200 ∷ 255 ∷ 255 ∷ 255 ∷ 219 ∷ 255 ∷ 255 ∷ 251 ∷ 157 ∷ 239 ∷ 231 ∷ 251 ∷ 218 ∷ 255 ∷ 242 ∷ 240 ∷ 255 ∷ 255 ∷ 248 ∷
      227 ∷ 203 ∷ 226 ∷ 247 ∷ 255 ∷ 255 ∷ 255 ∷ 176 ∷ 223 ∷ 255 ∷ 230 ∷ 235 ∷ 245 ∷ 171 ∷ 255 ∷ 238 ∷ 198 ∷ 205 ∷ 219 ∷ 207 ∷ 202 ∷ 237 ∷ 242 ∷ 248 ∷ 180 ∷
      205 ∷ 171 ∷ 226 ∷ 233 ∷ 228 ∷ 150 ∷ 168 ∷ 255 ∷ 245 ∷ 169 ∷ 164 ∷ 170 ∷ 228 ∷ 221 ∷ 255 ∷ 240 ∷ 244 ∷ 232 ∷ 233 ∷ 214 ∷ 249 ∷ 255 ∷ 193 ∷ 255 ∷ 225 ∷
      255 ∷ 178 ∷ 253 ∷ 170 ∷ 255 ∷ 185 ∷ 199 ∷ 203 ∷ 210 ∷ 199 ∷ 216 ∷ 217 ∷ 200 ∷ 243 ∷ 194 ∷ 211 ∷ 241 ∷ 211 ∷ 220 ∷ 251 ∷ 255 ∷ 247 ∷ 255 ∷ 172 ∷ 237 ∷
      204 ∷ 246 ∷ 227 ∷ 214 ∷ 175 ∷ 181 ∷ 175 ∷ 255 ∷ 210 ∷ 240 ∷ 204 ∷ 230 ∷ 255 ∷ 241 ∷ 235 ∷ 204 ∷ 249 ∷ 214 ∷ 201 ∷ 230 ∷ 255 ∷ 203 ∷ 160 ∷ 226 ∷ 188 ∷
      245 ∷ 216 ∷ 218 ∷ 203 ∷ 187 ∷ 217 ∷ 170 ∷ 249 ∷ 202 ∷ 255 ∷ 197 ∷ 188 ∷ 255 ∷ 206 ∷ 218 ∷ 209 ∷ 254 ∷ 242 ∷ 215 ∷ 200 ∷ 251 ∷ 187 ∷ 251 ∷ 255 ∷ 250 ∷
      223 ∷ 169 ∷ 197 ∷ 182 ∷ 255 ∷ 255 ∷ 235 ∷ 234 ∷ 253 ∷ 255 ∷ 191 ∷ 226 ∷ 206 ∷ 244 ∷ 218 ∷ 247 ∷ 208 ∷ 255 ∷ 238 ∷ 212 ∷ 229 ∷ 253 ∷ 223 ∷ 206 ∷ 201 ∷
      196 ∷ 215 ∷ 182 ∷ 190 ∷ 248 ∷ 206 ∷ 255 ∷ 197 ∷ 175 ∷ 181 ∷ 198 ∷ 240 ∷ 255 ∷ 220 ∷ 255 ∷ 188 ∷ 255 ∷ 192 ∷ 227 ∷ 192 ∷ 187 ∷ 198 ∷ 154 ∷ 244 ∷ 196 ∷
      228 ∷ 255 ∷ 238 ∷ 255 ∷ 223 ∷ 220 ∷ 229 ∷ 234 ∷ 231 ∷ 172 ∷ 255 ∷ 190 ∷ 237 ∷ 249 ∷ 255 ∷ 255 ∷ 176 ∷ 174 ∷ 252 ∷ 249 ∷ 243 ∷ 189 ∷ 255 ∷ 220 ∷ 186 ∷
      212 ∷ 229 ∷ 245 ∷ 219 ∷ 229 ∷ 192 ∷ 255 ∷ 255 ∷ 194 ∷ 166 ∷ 239 ∷ 249 ∷ 235 ∷ 196 ∷ 212 ∷ 252 ∷ 209 ∷ 244 ∷ 173 ∷ 200 ∷ 196 ∷ 250 ∷ 206 ∷ 204 ∷ 255 ∷
      174 ∷ 237 ∷ 200 ∷ 165 ∷ 174 ∷ 198 ∷ 195 ∷ 212 ∷ 255 ∷ 183 ∷ 241 ∷ 178 ∷ 170 ∷ 178 ∷ 230 ∷ 254 ∷ 240 ∷ 174 ∷ 247 ∷ 255 ∷ 182 ∷ 222 ∷ 255 ∷ 216 ∷ 246 ∷
      207 ∷ 234 ∷ 193 ∷ 255 ∷ 197 ∷ 195 ∷ 235 ∷ 197 ∷ 201 ∷ 205 ∷ 223 ∷ 255 ∷ 167 ∷ 208 ∷ 184 ∷ 195 ∷ 224 ∷ 235 ∷ 203 ∷ 255 ∷ 255 ∷ 227 ∷ 249 ∷ 223 ∷ 213 ∷
      186 ∷ 240 ∷ 217 ∷ 238 ∷ 167 ∷ 255 ∷ 206 ∷ 206 ∷ 225 ∷ 231 ∷ 250 ∷ 166 ∷ 227 ∷ 230 ∷ 251 ∷ 227 ∷ 213 ∷ 255 ∷ 255 ∷ 251 ∷ 174 ∷ 255 ∷ 185 ∷ 242 ∷ 181 ∷
      203 ∷ 201 ∷ 209 ∷ 209 ∷ 175 ∷ 181 ∷ 255 ∷ 232 ∷ 180 ∷ 183 ∷ 247 ∷ 241 ∷ 168 ∷ 255 ∷ 230 ∷ 240 ∷ 241 ∷ 189 ∷ 210 ∷ 233 ∷ 205 ∷ 178 ∷ 185 ∷ 249 ∷ 240 ∷
      191 ∷ 201 ∷ 232 ∷ 249 ∷ 255 ∷ 186 ∷ 225 ∷ 248 ∷ 184 ∷ 255 ∷ 177 ∷ 240 ∷ 189 ∷ 255 ∷ 238 ∷ 243 ∷ 210 ∷ 211 ∷ 232 ∷ 253 ∷ 222 ∷ 210 ∷ 194 ∷ 251 ∷ 255 ∷
      197 ∷ 214 ∷ 219 ∷ 193 ∷ 217 ∷ 236 ∷ 207 ∷ 196 ∷ 204 ∷ 223 ∷ 204 ∷ 219 ∷ 220 ∷ 245 ∷ 221 ∷ 201 ∷ 246 ∷ 210 ∷ 244 ∷ 216 ∷ 255 ∷ 197 ∷ 183 ∷ 227 ∷ 255 ∷
      177 ∷ 228 ∷ 252 ∷ 234 ∷ 175 ∷ 255 ∷ 252 ∷ 203 ∷ 219 ∷ 237 ∷ 231 ∷ 231 ∷ 235 ∷ 255 ∷ 255 ∷ 255 ∷ 185 ∷ 251 ∷ 255 ∷ 255 ∷ 189 ∷ 194 ∷ 176 ∷ 199 ∷ 186 ∷
      209 ∷ 182 ∷ 206 ∷ 239 ∷ 178 ∷ 255 ∷ 233 ∷ 225 ∷ 239 ∷ 248 ∷ 214 ∷ 244 ∷ 232 ∷ 238 ∷ 222 ∷ 255 ∷ 207 ∷ 204 ∷ 206 ∷ 255 ∷ 206 ∷ 255 ∷ 255 ∷ 179 ∷ [];
  pieces = 68;
}

plane2-holds : holds_plane plane2 ≡ true
unfolding holds_plane same plane2 sum_z sum_n rounded padded_in skip_bit final_in across unit_number plane_after piece_at plane_pieces
plane2-holds = refl

plane3 : PlaneVector
plane3 = record {
  w = 20;
  h = 12;
  u = 8;
  count = 4;
  filter = negsuc 96 ∷ pos 44 ∷ negsuc 112 ∷ pos 87 ∷ pos 24 ∷ pos 121 ∷ pos 1 ∷ negsuc 30 ∷ pos 88 ∷ pos 6 ∷ negsuc 69 ∷ negsuc 64 ∷ negsuc 96 ∷ pos 127 ∷
      pos 1 ∷ negsuc 57 ∷ [];
  skip = 50822 ∷ 36496 ∷ 15542 ∷ [];
  plane = 155 ∷ 155 ∷ 161 ∷ 157 ∷ 161 ∷ 157 ∷ 154 ∷ 162 ∷ 153 ∷ 157 ∷ 156 ∷ 151 ∷ 157 ∷ 150 ∷ 159 ∷ 156 ∷ 150 ∷ 151 ∷ 150 ∷ 155 ∷ 156 ∷ 155 ∷ 155 ∷ 162 ∷ 155 ∷
      162 ∷ 161 ∷ 157 ∷ 155 ∷ 157 ∷ 158 ∷ 153 ∷ 160 ∷ 153 ∷ 157 ∷ 159 ∷ 152 ∷ 162 ∷ 151 ∷ 152 ∷ 160 ∷ 160 ∷ 160 ∷ 160 ∷ 161 ∷ 161 ∷ 159 ∷ 154 ∷ 154 ∷ 160 ∷
      150 ∷ 156 ∷ 153 ∷ 151 ∷ 153 ∷ 155 ∷ 157 ∷ 158 ∷ 158 ∷ 161 ∷ 162 ∷ 162 ∷ 159 ∷ 151 ∷ 157 ∷ 160 ∷ 150 ∷ 154 ∷ 150 ∷ 153 ∷ 161 ∷ 162 ∷ 153 ∷ 161 ∷ 150 ∷
      154 ∷ 158 ∷ 151 ∷ 162 ∷ 159 ∷ 161 ∷ 162 ∷ 156 ∷ 155 ∷ 155 ∷ 160 ∷ 154 ∷ 151 ∷ 153 ∷ 160 ∷ 152 ∷ 162 ∷ 161 ∷ 161 ∷ 158 ∷ 153 ∷ 150 ∷ 161 ∷ 160 ∷ 157 ∷
      155 ∷ 153 ∷ 151 ∷ 158 ∷ 154 ∷ 151 ∷ 151 ∷ 159 ∷ 155 ∷ 162 ∷ 154 ∷ 160 ∷ 159 ∷ 154 ∷ 150 ∷ 162 ∷ 156 ∷ 151 ∷ 152 ∷ 150 ∷ 154 ∷ 161 ∷ 150 ∷ 151 ∷ 152 ∷
      159 ∷ 158 ∷ 153 ∷ 162 ∷ 152 ∷ 153 ∷ 151 ∷ 157 ∷ 157 ∷ 153 ∷ 157 ∷ 155 ∷ 155 ∷ 159 ∷ 152 ∷ 151 ∷ 161 ∷ 154 ∷ 158 ∷ 156 ∷ 151 ∷ 157 ∷ 150 ∷ 150 ∷ 156 ∷
      159 ∷ 158 ∷ 162 ∷ 160 ∷ 158 ∷ 152 ∷ 157 ∷ 157 ∷ 159 ∷ 155 ∷ 150 ∷ 154 ∷ 156 ∷ 161 ∷ 154 ∷ 151 ∷ 157 ∷ 151 ∷ 161 ∷ 161 ∷ 156 ∷ 157 ∷ 154 ∷ 150 ∷ 155 ∷
      159 ∷ 157 ∷ 161 ∷ 156 ∷ 160 ∷ 155 ∷ 153 ∷ 158 ∷ 162 ∷ 153 ∷ 158 ∷ 157 ∷ 156 ∷ 153 ∷ 157 ∷ 152 ∷ 153 ∷ 153 ∷ 157 ∷ 159 ∷ 158 ∷ 152 ∷ 150 ∷ 156 ∷ 154 ∷
      158 ∷ 152 ∷ 154 ∷ 155 ∷ 160 ∷ 157 ∷ 153 ∷ 161 ∷ 157 ∷ 154 ∷ 157 ∷ 152 ∷ 155 ∷ 161 ∷ 159 ∷ 152 ∷ 161 ∷ 154 ∷ 159 ∷ 150 ∷ 159 ∷ 157 ∷ 161 ∷ 162 ∷ 157 ∷
      156 ∷ 157 ∷ 152 ∷ 155 ∷ 158 ∷ 157 ∷ 150 ∷ 151 ∷ 151 ∷ 153 ∷ 155 ∷ 157 ∷ 160 ∷ 154 ∷ 153 ∷ 162 ∷ 155 ∷ 156 ∷ 159 ∷ 156 ∷ [];
  expected = 146 ∷ 147 ∷ 140 ∷ 164 ∷ 161 ∷ 157 ∷ 154 ∷ 162 ∷ 153 ∷ 157 ∷ 156 ∷ 151 ∷ 134 ∷ 168 ∷ 144 ∷ 147 ∷ 167 ∷ 133 ∷ 153 ∷ 136 ∷ 146 ∷ 162 ∷ 145 ∷ 174 ∷ 155 ∷
      162 ∷ 161 ∷ 157 ∷ 155 ∷ 157 ∷ 158 ∷ 153 ∷ 140 ∷ 177 ∷ 148 ∷ 147 ∷ 170 ∷ 173 ∷ 157 ∷ 155 ∷ 178 ∷ 164 ∷ 177 ∷ 175 ∷ 161 ∷ 161 ∷ 159 ∷ 154 ∷ 154 ∷ 160 ∷
      150 ∷ 156 ∷ 129 ∷ 158 ∷ 154 ∷ 144 ∷ 191 ∷ 178 ∷ 163 ∷ 187 ∷ 196 ∷ 177 ∷ 173 ∷ 166 ∷ 157 ∷ 160 ∷ 150 ∷ 154 ∷ 150 ∷ 153 ∷ 161 ∷ 162 ∷ 139 ∷ 163 ∷ 160 ∷
      163 ∷ 165 ∷ 162 ∷ 185 ∷ 184 ∷ 180 ∷ 176 ∷ 154 ∷ 151 ∷ 153 ∷ 156 ∷ 139 ∷ 159 ∷ 149 ∷ 162 ∷ 172 ∷ 162 ∷ 163 ∷ 196 ∷ 157 ∷ 149 ∷ 150 ∷ 161 ∷ 160 ∷ 157 ∷
      150 ∷ 128 ∷ 149 ∷ 150 ∷ 148 ∷ 139 ∷ 132 ∷ 188 ∷ 164 ∷ 154 ∷ 153 ∷ 178 ∷ 137 ∷ 163 ∷ 148 ∷ 152 ∷ 156 ∷ 151 ∷ 152 ∷ 150 ∷ 138 ∷ 145 ∷ 148 ∷ 129 ∷ 142 ∷
      151 ∷ 154 ∷ 151 ∷ 165 ∷ 132 ∷ 163 ∷ 149 ∷ 156 ∷ 150 ∷ 176 ∷ 148 ∷ 155 ∷ 155 ∷ 159 ∷ 152 ∷ 134 ∷ 139 ∷ 145 ∷ 137 ∷ 156 ∷ 150 ∷ 148 ∷ 165 ∷ 145 ∷ 142 ∷
      167 ∷ 150 ∷ 173 ∷ 160 ∷ 173 ∷ 146 ∷ 157 ∷ 157 ∷ 159 ∷ 155 ∷ 126 ∷ 135 ∷ 154 ∷ 148 ∷ 154 ∷ 151 ∷ 157 ∷ 151 ∷ 161 ∷ 161 ∷ 156 ∷ 157 ∷ 154 ∷ 150 ∷ 155 ∷
      159 ∷ 157 ∷ 161 ∷ 156 ∷ 160 ∷ 142 ∷ 152 ∷ 152 ∷ 139 ∷ 153 ∷ 158 ∷ 157 ∷ 156 ∷ 153 ∷ 157 ∷ 152 ∷ 153 ∷ 153 ∷ 157 ∷ 159 ∷ 158 ∷ 152 ∷ 150 ∷ 156 ∷ 154 ∷
      166 ∷ 152 ∷ 149 ∷ 135 ∷ 160 ∷ 157 ∷ 153 ∷ 161 ∷ 157 ∷ 154 ∷ 157 ∷ 152 ∷ 155 ∷ 161 ∷ 159 ∷ 152 ∷ 161 ∷ 154 ∷ 159 ∷ 150 ∷ 165 ∷ 174 ∷ 160 ∷ 142 ∷ 157 ∷
      156 ∷ 157 ∷ 152 ∷ 155 ∷ 158 ∷ 157 ∷ 150 ∷ 151 ∷ 151 ∷ 153 ∷ 155 ∷ 157 ∷ 160 ∷ 154 ∷ 153 ∷ 162 ∷ 155 ∷ 156 ∷ 159 ∷ 156 ∷ [];
  pieces = 32;
}

plane3-holds : holds_plane plane3 ≡ true
unfolding holds_plane same plane3 sum_z sum_n rounded padded_in skip_bit final_in across unit_number plane_after piece_at plane_pieces
plane3-holds = refl

plane4 : PlaneVector
plane4 = record {
  w = 20;
  h = 12;
  u = 4;
  count = 7;
  filter = negsuc 96 ∷ pos 44 ∷ negsuc 112 ∷ pos 87 ∷ pos 24 ∷ pos 121 ∷ pos 1 ∷ negsuc 30 ∷ pos 88 ∷ pos 6 ∷ negsuc 69 ∷ negsuc 64 ∷ negsuc 96 ∷ pos 127 ∷
      pos 1 ∷ negsuc 57 ∷ [];
  skip = 50822 ∷ 36496 ∷ 15542 ∷ [];
  plane = 155 ∷ 155 ∷ 161 ∷ 157 ∷ 161 ∷ 157 ∷ 154 ∷ 162 ∷ 153 ∷ 157 ∷ 156 ∷ 151 ∷ 157 ∷ 150 ∷ 159 ∷ 156 ∷ 150 ∷ 151 ∷ 150 ∷ 155 ∷ 156 ∷ 155 ∷ 155 ∷ 162 ∷ 155 ∷
      162 ∷ 161 ∷ 157 ∷ 155 ∷ 157 ∷ 158 ∷ 153 ∷ 160 ∷ 153 ∷ 157 ∷ 159 ∷ 152 ∷ 162 ∷ 151 ∷ 152 ∷ 160 ∷ 160 ∷ 160 ∷ 160 ∷ 161 ∷ 161 ∷ 159 ∷ 154 ∷ 154 ∷ 160 ∷
      150 ∷ 156 ∷ 153 ∷ 151 ∷ 153 ∷ 155 ∷ 157 ∷ 158 ∷ 158 ∷ 161 ∷ 162 ∷ 162 ∷ 159 ∷ 151 ∷ 157 ∷ 160 ∷ 150 ∷ 154 ∷ 150 ∷ 153 ∷ 161 ∷ 162 ∷ 153 ∷ 161 ∷ 150 ∷
      154 ∷ 158 ∷ 151 ∷ 162 ∷ 159 ∷ 161 ∷ 162 ∷ 156 ∷ 155 ∷ 155 ∷ 160 ∷ 154 ∷ 151 ∷ 153 ∷ 160 ∷ 152 ∷ 162 ∷ 161 ∷ 161 ∷ 158 ∷ 153 ∷ 150 ∷ 161 ∷ 160 ∷ 157 ∷
      155 ∷ 153 ∷ 151 ∷ 158 ∷ 154 ∷ 151 ∷ 151 ∷ 159 ∷ 155 ∷ 162 ∷ 154 ∷ 160 ∷ 159 ∷ 154 ∷ 150 ∷ 162 ∷ 156 ∷ 151 ∷ 152 ∷ 150 ∷ 154 ∷ 161 ∷ 150 ∷ 151 ∷ 152 ∷
      159 ∷ 158 ∷ 153 ∷ 162 ∷ 152 ∷ 153 ∷ 151 ∷ 157 ∷ 157 ∷ 153 ∷ 157 ∷ 155 ∷ 155 ∷ 159 ∷ 152 ∷ 151 ∷ 161 ∷ 154 ∷ 158 ∷ 156 ∷ 151 ∷ 157 ∷ 150 ∷ 150 ∷ 156 ∷
      159 ∷ 158 ∷ 162 ∷ 160 ∷ 158 ∷ 152 ∷ 157 ∷ 157 ∷ 159 ∷ 155 ∷ 150 ∷ 154 ∷ 156 ∷ 161 ∷ 154 ∷ 151 ∷ 157 ∷ 151 ∷ 161 ∷ 161 ∷ 156 ∷ 157 ∷ 154 ∷ 150 ∷ 155 ∷
      159 ∷ 157 ∷ 161 ∷ 156 ∷ 160 ∷ 155 ∷ 153 ∷ 158 ∷ 162 ∷ 153 ∷ 158 ∷ 157 ∷ 156 ∷ 153 ∷ 157 ∷ 152 ∷ 153 ∷ 153 ∷ 157 ∷ 159 ∷ 158 ∷ 152 ∷ 150 ∷ 156 ∷ 154 ∷
      158 ∷ 152 ∷ 154 ∷ 155 ∷ 160 ∷ 157 ∷ 153 ∷ 161 ∷ 157 ∷ 154 ∷ 157 ∷ 152 ∷ 155 ∷ 161 ∷ 159 ∷ 152 ∷ 161 ∷ 154 ∷ 159 ∷ 150 ∷ 159 ∷ 157 ∷ 161 ∷ 162 ∷ 157 ∷
      156 ∷ 157 ∷ 152 ∷ 155 ∷ 158 ∷ 157 ∷ 150 ∷ 151 ∷ 151 ∷ 153 ∷ 155 ∷ 157 ∷ 160 ∷ 154 ∷ 153 ∷ 162 ∷ 155 ∷ 156 ∷ 159 ∷ 156 ∷ [];
  expected = 146 ∷ 147 ∷ 140 ∷ 164 ∷ 161 ∷ 157 ∷ 154 ∷ 162 ∷ 153 ∷ 157 ∷ 156 ∷ 151 ∷ 134 ∷ 168 ∷ 144 ∷ 147 ∷ 167 ∷ 133 ∷ 153 ∷ 136 ∷ 146 ∷ 162 ∷ 145 ∷ 174 ∷ 155 ∷
      162 ∷ 161 ∷ 157 ∷ 155 ∷ 157 ∷ 158 ∷ 153 ∷ 140 ∷ 177 ∷ 148 ∷ 147 ∷ 170 ∷ 173 ∷ 157 ∷ 155 ∷ 178 ∷ 164 ∷ 177 ∷ 175 ∷ 161 ∷ 161 ∷ 159 ∷ 154 ∷ 154 ∷ 160 ∷
      150 ∷ 156 ∷ 129 ∷ 158 ∷ 154 ∷ 144 ∷ 191 ∷ 178 ∷ 163 ∷ 187 ∷ 196 ∷ 177 ∷ 173 ∷ 166 ∷ 157 ∷ 160 ∷ 150 ∷ 154 ∷ 150 ∷ 153 ∷ 161 ∷ 162 ∷ 139 ∷ 163 ∷ 160 ∷
      163 ∷ 165 ∷ 162 ∷ 185 ∷ 184 ∷ 180 ∷ 176 ∷ 154 ∷ 151 ∷ 153 ∷ 156 ∷ 139 ∷ 159 ∷ 153 ∷ 160 ∷ 152 ∷ 162 ∷ 161 ∷ 161 ∷ 158 ∷ 153 ∷ 150 ∷ 161 ∷ 160 ∷ 157 ∷
      150 ∷ 128 ∷ 149 ∷ 150 ∷ 148 ∷ 139 ∷ 132 ∷ 188 ∷ 155 ∷ 162 ∷ 154 ∷ 160 ∷ 159 ∷ 154 ∷ 150 ∷ 162 ∷ 156 ∷ 151 ∷ 152 ∷ 150 ∷ 138 ∷ 145 ∷ 148 ∷ 129 ∷ 142 ∷
      151 ∷ 154 ∷ 151 ∷ 162 ∷ 152 ∷ 153 ∷ 151 ∷ 157 ∷ 157 ∷ 153 ∷ 157 ∷ 155 ∷ 155 ∷ 159 ∷ 152 ∷ 134 ∷ 139 ∷ 145 ∷ 137 ∷ 156 ∷ 150 ∷ 148 ∷ 165 ∷ 150 ∷ 156 ∷
      159 ∷ 158 ∷ 162 ∷ 160 ∷ 158 ∷ 152 ∷ 157 ∷ 157 ∷ 159 ∷ 155 ∷ 150 ∷ 154 ∷ 156 ∷ 161 ∷ 154 ∷ 151 ∷ 157 ∷ 151 ∷ 161 ∷ 161 ∷ 156 ∷ 157 ∷ 154 ∷ 150 ∷ 155 ∷
      159 ∷ 157 ∷ 161 ∷ 156 ∷ 160 ∷ 155 ∷ 153 ∷ 158 ∷ 162 ∷ 153 ∷ 158 ∷ 157 ∷ 156 ∷ 153 ∷ 157 ∷ 152 ∷ 153 ∷ 153 ∷ 157 ∷ 159 ∷ 158 ∷ 152 ∷ 150 ∷ 156 ∷ 154 ∷
      158 ∷ 152 ∷ 154 ∷ 155 ∷ 160 ∷ 157 ∷ 153 ∷ 161 ∷ 157 ∷ 154 ∷ 157 ∷ 152 ∷ 155 ∷ 161 ∷ 159 ∷ 152 ∷ 161 ∷ 154 ∷ 159 ∷ 150 ∷ 159 ∷ 157 ∷ 161 ∷ 162 ∷ 157 ∷
      156 ∷ 157 ∷ 152 ∷ 155 ∷ 158 ∷ 157 ∷ 150 ∷ 151 ∷ 151 ∷ 153 ∷ 155 ∷ 157 ∷ 160 ∷ 154 ∷ 153 ∷ 162 ∷ 155 ∷ 156 ∷ 159 ∷ 156 ∷ [];
  pieces = 20;
}

plane4-holds : holds_plane plane4 ≡ true
unfolding holds_plane same plane4 sum_z sum_n rounded padded_in skip_bit final_in across unit_number plane_after piece_at plane_pieces
plane4-holds = refl
