-- What the orders of a book have lost, as the code keeps it: one number for each order, displayed and non-displayed shares apart.
use Rattle.std.specs.Prelude.{ℕ, List, take}
use Rattle.units.specs.Lists.{zip_with}
use Rattle.orders.specs.Order.{Interest, interest}

-- the losses of the first n orders
abbrev pub losses_in : ℕ → List ℕ → List ℕ → List Interest
losses_in n shown hidden = zip_with interest (take n shown) (take n hidden)
