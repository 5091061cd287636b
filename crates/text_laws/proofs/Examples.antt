-- Worked examples of the text of a state, each computed from the definition.
use mathlib.Core.Path.{◌≡◌, refl}
use mathlib.Core.List.{[], ◌∷◌}
use Rattle.std.specs.Fmt.{digits}
use Rattle.definition.specs.declared.Operation.TheVariants.{Chroma}
use Rattle.definition.specs.Card.{line_text, value, wrong, ascii, newline, comma}
use Rattle.definition.specs.StateText.{number_limit, byte_limit, digits_from, number_at, several_text, numbers_text, list_text, op_text, letter_at, done_name, pair_name}

-- A NUMBER OF 64 BITS: the greatest, one more than it, and a digit more
greatest : number_at number_limit (ascii "18446744073709551615\n") newline 0 ≡ value number_limit 21
unfolding number_at digits_from
greatest = refl

one_more : number_at number_limit (ascii "18446744073709551616\n") newline 0 ≡ wrong
unfolding number_at digits_from
one_more = refl

longer : number_at number_limit (ascii "184467440737095516150\n") newline 0 ≡ wrong
unfolding number_at digits_from
longer = refl

-- A CLASS
class_most : number_at byte_limit (ascii "255,") comma 0 ≡ value 255 4
unfolding number_at digits_from
class_most = refl

class_past : number_at byte_limit (ascii "256,") comma 0 ≡ wrong
unfolding number_at digits_from
class_past = refl

-- ZERO, and what stands behind a leading 0
zero : number_at number_limit (ascii "0\n") newline 0 ≡ value 0 2
unfolding number_at digits_from
zero = refl

zeros : number_at number_limit (ascii "00\n") newline 0 ≡ wrong
unfolding number_at digits_from
zeros = refl

leading_zero : number_at number_limit (ascii "07\n") newline 0 ≡ wrong
unfolding number_at digits_from
leading_zero = refl

-- NO NUMBER: a sign, no digit, a wrong end, and none
plus : number_at number_limit (ascii "+7\n") newline 0 ≡ wrong
unfolding number_at digits_from
plus = refl

no_digit : number_at number_limit (ascii "\n") newline 0 ≡ wrong
unfolding number_at digits_from
no_digit = refl

wrong_end : number_at number_limit (ascii "7,") newline 0 ≡ wrong
unfolding number_at digits_from
wrong_end = refl

no_end : number_at number_limit (ascii "7") newline 0 ≡ wrong
unfolding number_at digits_from
no_end = refl

-- LINES
done_line : line_text done_name 64 ≡ ascii "done=64\n"
unfolding line_text digits
done_line = refl

pair_line : list_text pair_name 2 (1 ∷ 0 ∷ []) ≡ ascii "pair=1,0\n"
unfolding list_text numbers_text several_text digits
pair_line = refl

chroma_line : op_text Chroma ≡ ascii "op=c\n"
unfolding op_text
chroma_line = refl

other_letter : letter_at (ascii "x\n") 0 ≡ wrong
unfolding letter_at
other_letter = refl
