-- A part of an order as one number. It holds the rank of the order's price, the number of the paragraph in whose group the part stands, the
-- place of the order's record, and the shares of the part; so parts stand in the order of their executions where their numbers rise.
use Rattle.std.specs.Prelude.{ℕ, ◌+◌, ◌-◌, ◌*◌, ◌/◌, ◌%◌}

-- a paragraph's number is below 8, a record's below 512, and shares are below 1,048,576
abbrev pub key_of : ℕ → ℕ → ℕ → ℕ → ℕ
key_of rank paragraph place shares = 4294967296 * rank + 536870912 * paragraph + 1048576 * place + shares

abbrev pub rank_in : ℕ → ℕ
rank_in key = key / 4294967296

-- the rank and the paragraph together: the same for the parts of one group
abbrev pub group_in : ℕ → ℕ
group_in key = key / 536870912

-- the number of a group's paragraph
abbrev pub paragraph_in : ℕ → ℕ
paragraph_in group = group % 8

abbrev pub place_in : ℕ → ℕ
place_in key = key / 1048576 % 512

abbrev pub shares_in : ℕ → ℕ
shares_in key = key % 1048576

-- the part with other shares
abbrev pub with_shares : ℕ → ℕ → ℕ
with_shares n key = key - shares_in key + n
