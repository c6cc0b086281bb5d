-- The step by carries, and the mirrored path: the program's operations one after the other, with what each word shows.
--
--   even, odd, full           == the low bit of each digit, the high bit, both
--   on_right s, on_vertical s == ones in that direction, zeros in another
--   stops_at k                == the high bit where the walk stops at the digit of the place k
--   sum_at k                  == what the addition leaves at k
--   reached_at k              == the high bit where the walk reaches the digit of k
use Rattle.std.proofs.Common.{◌≡◌, ℕ, ◌+◌, ◌-◌, ◌*◌, ◌/◌, ◌%◌, ◌^◌, ◌<◌, ◌≤◌, true, cond, eqb, refl, ◌∙◌}
use lib.Bits.{bit_and, bit_or, bit_xor}
use Rattle.solids.specs.Triangles.{Side, left, right, vertical, side_no}
use Rattle.geometry.specs.Paths.{digit_no}
use Rattle.geometry.specs.Steps.{stops, replaced, mirror}
use Rattle.carry.specs.Carries.{digits_of, Carries, Mirrors}
use Rattle.carry.proofs.Words.{rep}
use Rattle.carry.proofs.Slots.{Slot, pad, at, side_at}
use Rattle.carry.proofs.Digits.{path_word, walked_at, map-walked_at, mirrored_at, map-mirrored_at}
use Rattle.carry.proofs.Shows.{Shows, seen, and, or, xor, not, shr, shl, plus}
use Rattle.carry.proofs.Aligned.{slots_of, mask, tail_shown, path_shown}

abbrev even : ℕ
even = 0x5555_5555_5555_5555

abbrev odd : ℕ
odd = 0xaaaa_aaaa_aaaa_aaaa

abbrev full : ℕ
full = 2 ^ 64 - 1

abbrev on_right : Side → ℕ
on_right left = 0
on_right right = 3
on_right vertical = 0

abbrev on_vertical : Side → ℕ
on_vertical left = 0
on_vertical right = 0
on_vertical vertical = 3

-- the masks are made from the number of the direction
pub right_mask : (s : Side) {n : ℕ} → n ≡ side_no s → (0 + (2 ^ 64 - bit_and n 1)) % 2 ^ 64 ≡ rep (on_right s) 32
right_mask left e = rw e
right_mask right e = rw e
right_mask vertical e = rw e

pub vertical_mask : (s : Side) {n : ℕ} → n ≡ side_no s → (0 + (2 ^ 64 - n / 2 ^ 1)) % 2 ^ 64 ≡ rep (on_vertical s) 32
vertical_mask left e = rw e
vertical_mask right e = rw e
vertical_mask vertical e = rw e

abbrev stops_at : Slot → ℕ
stops_at (pad s) = 0
stops_at (at s d c) = cond (stops s d) 2 0

abbrev sum_at : Slot → ℕ
sum_at (pad s) = 0
sum_at (at s d c) = cond (stops s d) (cond c 2 1) (cond c 0 3)

abbrev reached_at : Slot → ℕ
reached_at (pad s) = 0
reached_at (at s d c) = cond c 2 0

module _ (w : ℕ) where
  abbrev low : ℕ
  low = (bit_and w even * 2 ^ 1) % 2 ^ 64

  -- t is the tail, r and v are the masks for right and vertical, y is the sum
  module _ (t r v y : ℕ) where
    abbrev high : ℕ
    high = bit_and (full - t) odd

    abbrev stopping : ℕ
    stopping = bit_and (bit_xor (bit_xor (bit_and w (full - v)) (bit_and low (bit_or r v))) v) high

    abbrev climbs : ℕ
    climbs = full - stopping

    abbrev reached : ℕ
    reached = bit_and (bit_xor climbs y) high

    abbrev flips : ℕ
    flips = bit_or (bit_and reached (bit_xor low (full - r))) (bit_and (reached / 2 ^ 1) (full - v))

    pub by_carries : (s : Side) (d : ℕ) → d ≤ 26 → w < 2 ^ 64 → w % 4 ^ (32 - d) ≡ 0 → t ≡ 4 ^ (32 - d) - 1 →
        r ≡ rep (on_right s) 32 → v ≡ rep (on_vertical s) 32 → y ≡ (climbs + 1) % 2 ^ 64 →
        Carries s d w (bit_xor w flips) (eqb y 0)
    unfolding stops replaced
    by_carries s d h l e et er ev ey =
        let evens : Shows (slots_of s d w) (λ k. 1) even = mask s d w h (λ s. 1) tt in
        let odds : Shows (slots_of s d w) (λ k. 2) odd = mask s d w h (λ s. 2) tt in
        let rights : Shows (slots_of s d w) (λ k. on_right (side_at k)) r = rw er (mask s d w h on_right tt) in
        let verticals : Shows (slots_of s d w) (λ k. on_vertical (side_at k)) v = rw ev (mask s d w h on_vertical tt) in
        let path = path_shown s d w h l e in
        let high = and (not (tail_shown s d w h t et)) odds in
        let low = shl (and path evens) tt in
        let stop = seen (and (xor (xor (and path (not verticals)) (and low (or rights verticals))) verticals) high) stops_at tt in
        let sum = plus s (32 - d) (digits_of d w) (not stop) ey sum_at tt tt in
        let reach = seen (and (xor (not stop) sum.0) high) reached_at tt in
        let flip = or (and reach (xor low (not rights))) (and (shr reach tt) (not verticals)) in
        let end = seen (xor path flip) (λ k. digit_no (walked_at k)) tt in
        record {
          arrives = end.is ∙ path_word walked_at s refl (32 - d) (digits_of d w) ∙ rw (map-walked_at s (digits_of d w));
          over = sum.1;
        }

  -- the direction does not matter here
  pub by_mirror : w < 2 ^ 64 → Mirrors w (bit_xor w low)
  unfolding mirror
  by_mirror l d h e =
      let evens : Shows (slots_of left d w) (λ k. 1) even = mask left d w h (λ s. 1) tt in
      let path = path_shown left d w h l e in
      let end = seen (xor path (shl (and path evens) tt)) (λ k. digit_no (mirrored_at k)) tt in
      end.is ∙ path_word mirrored_at left refl (32 - d) (digits_of d w) ∙ rw (map-mirrored_at left true (digits_of d w))
