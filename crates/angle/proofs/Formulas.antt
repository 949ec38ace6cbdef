-- The printed formulas as data (`Formula`), so that bounds of them can be computed. `value` of each is the definition itself: nothing is proved of them here.
use Rattle.bounds.proofs.Formula.{Formula, var, lit, plus, minus, times, over, call}
use Rattle.elementary.specs.Floats.{near}
use Rattle.elementary.proofs.Formulas.{n, sine_f}

-- ---- of q: the prime vertical radius over a
abbrev pub radius_series : Formula → Formula
radius_series q = plus (n 1) (times q (plus (lit (near 1 2)) (times q (plus (lit (near 3 8)) (times q (plus (lit (near 5 16)) (times q (lit (near 35 128)))))))))

-- ---- of a, e2 and the sine of the latitude: the prime vertical radius
abbrev pub prime_vertical_f : Formula → Formula → Formula → Formula
prime_vertical_f a e2 s =
    let q = times e2 (times s s) in
    times a (radius_series q)

-- ---- of a, e2 and the latitude: the meridian's length
abbrev pub meridian_arc_f : Formula → Formula → Formula → Formula
meridian_arc_f a e2 φ =
    let e4 = times e2 e2 in
    let e6 = times e4 e2 in
    let m0 = minus (minus (minus (n 1) (over e2 (n 4))) (over (times (n 3) e4) (n 64))) (over (times (n 5) e6) (n 256)) in
    let m2 = plus (plus (over (times (n 3) e2) (n 8)) (over (times (n 3) e4) (n 32))) (over (times (n 45) e6) (n 1024)) in
    let m4 = plus (over (times (n 15) e4) (n 256)) (over (times (n 45) e6) (n 1024)) in
    let m6 = over (times (n 35) e6) (n 3072) in
    times a (minus (plus (minus (times m0 φ) (times m2 (call sine_f (times (n 2) φ)))) (times m4 (call sine_f (times (n 4) φ)))) (times m6 (call sine_f (times (n 6) φ))))

-- ---- of e2, the latitude's sine and cosine, the radius there, the difference of longitudes, that of the arcs, and the false easting or northing
abbrev t' : Formula
t' = over (var 1) (var 2)

abbrev T' : Formula
T' = times t' t'

abbrev C' : Formula
C' = times (times (over (var 0) (minus (n 1) (var 0))) (var 2)) (var 2)

abbrev A' : Formula
A' = times (var 4) (var 2)

abbrev A2' : Formula
A2' = times A' A'

abbrev A4' : Formula
A4' = times A2' A2'

abbrev pub east_f : Formula
east_f =
    times (var 3) (minus (minus A' (over (times T' (times A2' A')) (n 6))) (over (times (times (plus (minus (n 8) T') (times (n 8) C')) T') (times A4' A')) (n 120)))

abbrev pub north_f : Formula
north_f = plus (var 5) (times (times (var 3) t') (plus (over A2' (n 2)) (over (times (plus (minus (n 5) T') (times (n 6) C')) A4') (n 24))))

-- ---- of e2, the radius, the height, the latitude's sine and cosine, and the longitude's
abbrev pub axis_f : Formula → Formula
axis_f l = times (times (plus (var 1) (var 2)) (var 4)) l

abbrev pub polar_f : Formula
polar_f = times (plus (times (minus (n 1) (var 0)) (var 1)) (var 2)) (var 3)
