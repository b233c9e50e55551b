-- The kinds of bytes, by their ASCII codes.
use Rattle.std.specs.Prelude.{ℕ, ◌==◌, Bool, ◌||◌, ◌&&◌, nat_le}

-- space, tab, line feed, carriage return
abbrev pub is_blank : ℕ → Bool
is_blank b = b == 32 || b == 9 || b == 10 || b == 13

abbrev pub is_digit : ℕ → Bool
is_digit b = nat_le 48 b && nat_le b 57

-- what a lower name begins with: a letter a to z or an underscore
abbrev pub begins_lower : ℕ → Bool
begins_lower b = (nat_le 97 b && nat_le b 122) || b == 95

-- what an upper name begins with: a letter A to Z
abbrev pub begins_upper : ℕ → Bool
begins_upper b = nat_le 65 b && nat_le b 90

abbrev pub is_letter : ℕ → Bool
is_letter b = (nat_le 97 b && nat_le b 122) || (nat_le 65 b && nat_le b 90)

-- what a name goes on with: a letter, a digit, an underscore or a quote
abbrev pub is_name_byte : ℕ → Bool
is_name_byte b = is_letter b || is_digit b || b == 95 || b == 39

-- what a number goes on with: a digit or an underscore
abbrev pub is_number_byte : ℕ → Bool
is_number_byte b = is_digit b || b == 95
