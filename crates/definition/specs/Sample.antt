-- docs/SCOPE.md, 'One sample'. `s dy dx` is the padded sample dy rows below and dx columns right of the sample that is restored,
-- `c k` the filter's number k, and `limit` the largest sample.
use Rattle.std.specs.Prelude.{List, [], ◌∷◌, ℕ, ◌+◌, ◌*◌, ℤ, pos, negsuc, neg_ℤ, ◌+ℤ◌, ◌-ℤ◌, ◌*ℤ◌, get_or}
use Rattle.std.specs.Int.Signed.{shr_z}
use Rattle.definition.specs.Numbers.{clip_to, sum_z}

-- the largest sample at 8 bits
abbrev pub limit8 : ℕ
limit8 = 255

-- WIENER_NS_CONFIG_Y: each tap is dy, dx
abbrev pub ns_config_y : List (List ℤ)
ns_config_y =
    (pos 1 ∷ pos 0 ∷ []) ∷
    (pos 0 ∷ pos 1 ∷ []) ∷
    (pos 2 ∷ pos 0 ∷ []) ∷
    (pos 0 ∷ pos 2 ∷ []) ∷
    (pos 1 ∷ pos 1 ∷ []) ∷
    (negsuc 0 ∷ pos 1 ∷ []) ∷
    (pos 2 ∷ pos 1 ∷ []) ∷
    (pos 2 ∷ negsuc 0 ∷ []) ∷
    (pos 1 ∷ pos 2 ∷ []) ∷
    (pos 1 ∷ negsuc 1 ∷ []) ∷
    (pos 3 ∷ pos 0 ∷ []) ∷
    (pos 0 ∷ pos 3 ∷ []) ∷
    (pos 4 ∷ pos 0 ∷ []) ∷
    (pos 0 ∷ pos 4 ∷ []) ∷
    (pos 3 ∷ pos 3 ∷ []) ∷
    (pos 3 ∷ negsuc 2 ∷ []) ∷
    []

-- WIENER_NS_CONFIG_UV
abbrev pub ns_config_uv : List (List ℤ)
ns_config_uv =
    (pos 1 ∷ pos 0 ∷ []) ∷
    (pos 0 ∷ pos 1 ∷ []) ∷
    (pos 1 ∷ pos 1 ∷ []) ∷
    (negsuc 0 ∷ pos 1 ∷ []) ∷
    (pos 2 ∷ pos 0 ∷ []) ∷
    (pos 0 ∷ pos 2 ∷ []) ∷
    []

-- WIENER_NS_CONFIG_UV_FROM_Y
abbrev pub ns_config_uv_from_y : List (List ℤ)
ns_config_uv_from_y =
    (pos 1 ∷ pos 0 ∷ []) ∷
    (negsuc 0 ∷ pos 0 ∷ []) ∷
    (pos 0 ∷ pos 1 ∷ []) ∷
    (pos 0 ∷ negsuc 0 ∷ []) ∷
    (pos 1 ∷ pos 1 ∷ []) ∷
    (negsuc 0 ∷ negsuc 0 ∷ []) ∷
    (negsuc 0 ∷ pos 1 ∷ []) ∷
    (pos 1 ∷ negsuc 0 ∷ []) ∷
    (pos 2 ∷ pos 0 ∷ []) ∷
    (negsuc 1 ∷ pos 0 ∷ []) ∷
    (pos 0 ∷ pos 2 ∷ []) ∷
    (pos 0 ∷ negsuc 1 ∷ []) ∷
    []

-- PC_WIENER_CONFIG
abbrev pub pc_config : List (List ℤ)
pc_config =
    (pos 1 ∷ pos 0 ∷ []) ∷
    (pos 0 ∷ pos 1 ∷ []) ∷
    (pos 2 ∷ pos 0 ∷ []) ∷
    (pos 0 ∷ pos 2 ∷ []) ∷
    (pos 1 ∷ pos 1 ∷ []) ∷
    (negsuc 0 ∷ pos 1 ∷ []) ∷
    (pos 2 ∷ pos 1 ∷ []) ∷
    (pos 2 ∷ negsuc 0 ∷ []) ∷
    (pos 1 ∷ pos 2 ∷ []) ∷
    (pos 1 ∷ negsuc 1 ∷ []) ∷
    (pos 3 ∷ pos 0 ∷ []) ∷
    (pos 0 ∷ pos 3 ∷ []) ∷
    []

-- tap k of a list
abbrev pub dy_of : List (List ℤ) → ℕ → ℤ
dy_of taps k = get_or (get_or taps k []) 0 (pos 0)

abbrev pub dx_of : List (List ℤ) → ℕ → ℤ
dx_of taps k = get_or (get_or taps k []) 1 (pos 0)

-- (s + 64) shifted right by 7, clipped to 0 .. limit: the rounding of all three filters
unfoldable pub rounded : ℕ → ℤ → ℕ
rounded limit s = clip_to limit (shr_z (s +ℤ pos 64) 128)

module _ (s : ℤ → ℤ → ℕ) where
  -- m
  abbrev pub centre : ℕ
  centre = s (pos 0) (pos 0)

  -- a + b: a at (+dy, +dx), b at (-dy, -dx)
  abbrev pub pair_of : List (List ℤ) → ℕ → ℕ
  pair_of taps k = s (dy_of taps k) (dx_of taps k) + s (neg_ℤ (dy_of taps k)) (neg_ℤ (dx_of taps k))

  module _ (c : ℕ → ℤ) where
    -- (a + b - 2m) × c
    abbrev pub ns_tap : List (List ℤ) → ℕ → ℤ
    ns_tap taps k = (pos (pair_of taps k) -ℤ pos (2 * centre)) *ℤ c k

    -- (a + b) × c
    abbrev pub pc_tap : ℕ → ℤ
    pc_tap k = pos (pair_of pc_config k) *ℤ c k

    abbrev pub luma_sum : ℤ
    luma_sum = pos (128 * centre) +ℤ sum_z 16 (ns_tap ns_config_y)

    abbrev pub pretrained_sum : ℤ
    pretrained_sum = pos centre *ℤ c 12 +ℤ sum_z 12 pc_tap

-- (value - luma centre) × c: tap k of twelve reads one value of luma, `step` columns for one of its own
abbrev pub luma_tap : (ℤ → ℤ → ℕ) → ℕ → (ℕ → ℤ) → ℕ → ℤ
luma_tap l step c k = (pos (l (dy_of ns_config_uv_from_y k) (pos step *ℤ dx_of ns_config_uv_from_y k)) -ℤ pos (centre l)) *ℤ c (6 + k)

abbrev pub chroma_sum : (ℤ → ℤ → ℕ) → (ℤ → ℤ → ℕ) → ℕ → (ℕ → ℤ) → ℤ
chroma_sum s l step c = pos (128 * centre s) +ℤ sum_z 6 (ns_tap s c ns_config_uv) +ℤ sum_z 12 (luma_tap l step c)

-- the restored samples
abbrev pub luma_sample : ℕ → (ℤ → ℤ → ℕ) → (ℕ → ℤ) → ℕ
luma_sample limit s c = rounded limit (luma_sum s c)

abbrev pub pretrained_sample : ℕ → (ℤ → ℤ → ℕ) → (ℕ → ℤ) → ℕ
pretrained_sample limit s c = rounded limit (pretrained_sum s c)

abbrev pub chroma_sample : ℕ → (ℤ → ℤ → ℕ) → (ℤ → ℤ → ℕ) → ℕ → (ℕ → ℤ) → ℕ
chroma_sample limit s l step c = rounded limit (chroma_sum s l step c)
