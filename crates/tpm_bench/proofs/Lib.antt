mod Came
